pub mod Streaming
pub mod Writing
pub mod Names
