pub mod Messages
pub mod Fields
pub mod Faults
pub mod AllFaults
pub mod Steps
