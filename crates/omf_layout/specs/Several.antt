pub mod Gathered
pub mod Portions
pub mod Order
pub mod Laying
pub mod Laws
pub mod Placing
pub mod Rows
