pub mod Choosing
pub mod Reaching
pub mod Rest
pub mod Uses
