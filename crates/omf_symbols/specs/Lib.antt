pub mod Symbol
pub mod Tools
pub mod Names
pub mod Text
pub mod Classes
pub mod Placed
pub mod Rows
