pub mod Growth
pub mod Flipping
pub mod Insertion
pub mod Inserting
pub mod Heads
