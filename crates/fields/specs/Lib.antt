-- What the functions of this crate tell of a text.
pub mod Fields
