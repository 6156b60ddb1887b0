pub mod Sorted
pub mod Publics
pub mod Combined
pub mod Rows
