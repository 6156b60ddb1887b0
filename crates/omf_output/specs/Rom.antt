pub mod Spelled
pub mod Runs
pub mod Cut
pub mod IntelHex
pub mod Motorola
pub mod Binary
pub mod Reading
pub mod Memory
