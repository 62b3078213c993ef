-- What the contracts of this crate cite: Wrong is what the customer must believe; Parts is what its functions tell each other and the writer.
pub mod Wrong
pub mod Parts
