pub mod Frames
pub mod Cut
pub mod Reader
