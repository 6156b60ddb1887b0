pub mod Faults
pub mod Files
pub mod Named
pub mod Near
pub mod Rows
pub mod Strays
pub mod TextLines
