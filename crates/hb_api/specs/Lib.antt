pub mod Limits
pub mod Requests
pub mod Faults
pub mod Steps
