pub mod Link
pub mod Seen
pub mod Inner
