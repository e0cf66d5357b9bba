pub mod Stored
pub mod Moves
pub mod MemMoves
