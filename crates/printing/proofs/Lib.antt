pub mod Fits
pub mod Saying
pub mod Copying
pub mod Inputs
pub mod Unique
pub mod Demands
pub mod Shown
