pub mod Additions
pub mod Columns
