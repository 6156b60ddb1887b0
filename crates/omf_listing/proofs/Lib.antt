pub mod SortedLaws
pub mod OrderLaws
pub mod CombinedLaws
