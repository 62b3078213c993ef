-- What the customer must believe of the sheet, each word of document 01 once; Reading is what the reader's functions tell each other.
pub mod Text
pub mod Labels
pub mod Sheet
pub mod Reading
pub mod FirstWrong
pub mod WrongSheets
