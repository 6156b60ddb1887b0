pub mod Rom
pub mod Exe
pub mod Located
pub mod Near
pub mod Stacks
pub mod Inner
