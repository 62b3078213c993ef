pub mod Parts
pub mod Delivery
