pub mod Aligned
pub mod Changed
pub mod Laws
pub mod Origins
pub mod Rows
pub mod Inner
