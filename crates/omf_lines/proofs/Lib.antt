pub mod FileLines
pub mod LinkLines
pub mod TextLineLaws
