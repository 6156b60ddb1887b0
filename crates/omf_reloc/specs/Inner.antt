pub mod Measuring
pub mod PieceSeen
pub mod Pieces
pub mod ReachSteps
pub mod Seen
pub mod Walking
pub mod Widths
pub mod Names
