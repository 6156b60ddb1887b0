pub mod Keys
pub mod Laws
pub mod Programs
pub mod Memory
pub mod Maps
pub mod Files
pub mod Chosen
