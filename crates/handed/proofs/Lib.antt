pub mod Basics
pub mod Marking
