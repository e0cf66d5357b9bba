pub mod Observe
pub mod Lines
pub mod Filling
