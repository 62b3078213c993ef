pub mod Swapping
pub mod Shifting
pub mod Moving
pub mod Progress
