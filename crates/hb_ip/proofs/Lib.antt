pub mod Lengths
pub mod Addresses
pub mod Slashless
pub mod Blocks
