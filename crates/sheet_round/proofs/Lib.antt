pub mod Bound
pub mod Round
pub mod Useless
pub mod Demands
