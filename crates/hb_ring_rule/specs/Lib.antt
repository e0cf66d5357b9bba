pub mod Layout
pub mod Records
pub mod Views
pub mod Rule
pub mod Steps
pub mod Plays
