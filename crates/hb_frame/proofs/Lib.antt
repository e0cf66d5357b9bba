pub mod Cuts
pub mod Begins
pub mod Each
pub mod Given
