pub mod Texts
pub mod Selectors
pub mod Meaning
pub mod Reading
