pub mod Stack
pub mod Classes
pub mod Mixed
