-- What the customer's demands say of sheets.
pub mod Demands
