pub mod LineLaws
pub mod NumberLaws
pub mod SignedLaws
pub mod CountLaws
