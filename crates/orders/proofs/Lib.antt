pub mod Entries
pub mod Places
pub mod Refusals
pub mod Sweeps
pub mod Stores
pub mod Flags
pub mod Zeros
