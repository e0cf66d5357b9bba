pub mod Causes
pub mod Shelf
pub mod Sink
pub mod Link
pub mod Plan
pub mod MemShelf
pub mod MemSink
pub mod MemLink
