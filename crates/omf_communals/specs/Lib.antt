pub mod Typdef
pub mod Communals
pub mod Laws
pub mod Rows
pub mod Inner
