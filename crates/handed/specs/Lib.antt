-- What the contracts of this crate cite.
pub mod Conditions
pub mod Handed
