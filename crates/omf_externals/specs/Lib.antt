pub mod Names
pub mod Repeated
pub mod Rows
pub mod Unresolved
