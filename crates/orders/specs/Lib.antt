-- What the contracts of this crate cite.
pub mod Squares
pub mod Refusals
pub mod Tested
pub mod Places
pub mod Held
