pub mod Spots
pub mod Known
