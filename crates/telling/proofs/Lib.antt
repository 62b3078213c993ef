pub mod Bits
pub mod Lines
