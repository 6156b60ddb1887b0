pub mod SweepLaws
pub mod ShareLaws
pub mod LowestLaws
pub mod MemoryLaws
pub mod CoverLaws
pub mod RunSteps
pub mod SegmentLaws
pub mod SearchLaws
