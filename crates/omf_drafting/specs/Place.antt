pub mod Faults
pub mod Drafts
pub mod Runs
pub mod Words
