-- What the contracts of this crate cite.
pub mod Climbed
pub mod Rounds
