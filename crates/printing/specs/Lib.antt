-- What the customer must believe.
pub mod Room
pub mod Shown
pub mod Promise
pub mod Demands
