-- Printed is what the customer must believe; Parts is what the functions inside tell each other.
pub mod Printed
pub mod Parts
