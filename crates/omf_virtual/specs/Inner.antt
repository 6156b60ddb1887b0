pub mod Readers
pub mod Writing
pub mod Counts
