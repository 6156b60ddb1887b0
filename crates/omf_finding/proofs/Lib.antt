pub mod LastLaws
pub mod UnplacedLaws
pub mod PatternLaws
pub mod MarkLaws
pub mod WalkLaws
pub mod FoundLaws
pub mod IsFoundLaws
pub mod RunLaws
pub mod SaidLaws
pub mod AmongLaws
mod TellingLaws
mod CompareLaws
mod IndexLaws
pub mod IntervalLaws
pub mod AgreesLaws
pub mod ChunkLaws
pub mod RareLaws
pub mod FourLaws
pub mod WindowLaws
pub mod PlaceLaws
pub mod ListLaws
pub mod MeasureLaws
pub mod SingleLaws
pub mod SureLaws
pub mod ShapeLaws
pub mod CandidateLaws
pub mod ClosedLaws
pub mod ShownLaws
pub mod NearLaws
pub mod StrayLaws
pub mod ChainLaws
pub mod CloseLaws
