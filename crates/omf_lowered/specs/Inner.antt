pub mod FileState
pub mod Moves
