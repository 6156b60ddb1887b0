pub mod Modules
pub mod Places
pub mod Files
pub mod Checked
pub mod Laws
pub mod Mended
pub mod Inner
