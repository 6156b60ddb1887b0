pub mod Values
pub mod Layouts
pub mod Virtual
pub mod Modules
pub mod Origins
pub mod Laws
pub mod Rows
pub mod Inner
