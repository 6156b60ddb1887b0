pub mod Made
pub mod Inner
pub mod Names
pub mod Taken
pub mod Rows
