pub mod Lines
pub mod Members
pub mod Find
pub mod Defining
pub mod Keys
pub mod Near
