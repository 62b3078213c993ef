pub mod SheetLaws
pub mod Unique
pub mod Refusing
