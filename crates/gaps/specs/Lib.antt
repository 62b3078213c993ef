-- What the contracts of this crate cite: gaps, the least of them, and a rise.
pub mod Steps
