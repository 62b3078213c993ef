-- What growing from a start means, and what its steps leave to one another.
pub mod Growing
pub mod Grown
