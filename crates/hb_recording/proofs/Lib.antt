-- A file that is a recording, or bad at a place.
pub mod Once
pub mod Each
pub mod Canonical
pub mod Fronts
pub mod Gives
pub mod Small
pub mod Fitting
