pub mod Aliases
pub mod Circles
