pub mod Limits
pub mod Looks
pub mod Stands
pub mod Reader
pub mod Answers
pub mod Progress
pub mod Room
