-- What is kept of an event, and that it is read again.
pub mod KeptLemmas
pub mod Windows
