pub mod Taking
pub mod Input
pub mod Settling
pub mod Views
pub mod Unlowered
