pub mod Limits
pub mod Parts
pub mod Overlay
pub mod Blocks
pub mod Painting
pub mod Rows
pub mod Laws
pub mod Inner
