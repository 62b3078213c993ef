pub mod Joining
pub mod Refusing
