pub mod Slots
pub mod Logs
pub mod WriterSteps
pub mod ReaderSteps
pub mod SeatSteps
