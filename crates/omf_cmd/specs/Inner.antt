pub mod FaultWords
pub mod Printing
pub mod RunLines
pub mod Names
