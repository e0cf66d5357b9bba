pub mod Calendar
pub mod Stamps
pub mod Texts
pub mod Spans
pub mod Reading
