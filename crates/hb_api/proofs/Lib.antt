pub mod Spelling
pub mod ByNumber
pub mod Fitting
pub mod Again
pub mod Least
pub mod Masks
