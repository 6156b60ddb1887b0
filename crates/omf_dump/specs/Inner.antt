pub mod Keeping
pub mod Resolving
pub mod Showing
pub mod Walking
pub mod Later
pub mod Facts
pub mod Naming
