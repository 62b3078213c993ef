pub mod Tightness
pub mod Joining
pub mod Scanning
