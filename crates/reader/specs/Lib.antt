-- What the reader's contracts cite: Promise is what the customer must believe; Parts is what the functions inside tell each other.
pub mod Parts
pub mod Promise
