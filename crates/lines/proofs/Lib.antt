pub mod LineLaws
pub mod KeepLaws
