pub mod Addresses
pub mod Far
pub mod Laws
pub mod MapText
pub mod Rows
pub mod Inner
