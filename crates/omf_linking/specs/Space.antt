pub mod Memory
pub mod Segments
pub mod Rows
