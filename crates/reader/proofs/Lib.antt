pub mod WalkLaws
pub mod PromiseLaws
pub mod Unique
