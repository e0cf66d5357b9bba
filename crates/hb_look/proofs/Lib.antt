pub mod Runs
pub mod Findings
pub mod Added
pub mod Orders
pub mod Progress
