pub mod Accounting
pub mod Asked
pub mod Modules
pub mod Names
pub mod Search
pub mod Walk
pub mod Judging
pub mod Weak
