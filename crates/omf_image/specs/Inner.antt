pub mod BlockReaders
pub mod Copying
pub mod Expanding
pub mod Folding
pub mod Joined
pub mod Lengths
pub mod Sorted
pub mod Names
