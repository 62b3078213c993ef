-- What the customer must believe, each word of documents 01 and 02 once.
pub mod Limits
pub mod Lists
pub mod Totals
pub mod Table
pub mod Canon
pub mod Paths
pub mod Cases
