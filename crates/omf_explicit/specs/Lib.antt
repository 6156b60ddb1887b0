pub mod Layouts
pub mod Explicit
pub mod Modules
pub mod Origins
pub mod Laws
pub mod Rows
pub mod Inner
