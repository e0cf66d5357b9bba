pub mod Words
pub mod Options
pub mod Values
pub mod Limits
