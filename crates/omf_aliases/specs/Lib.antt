pub mod AliasRows
pub mod Aliases
pub mod Circles
pub mod Inner
