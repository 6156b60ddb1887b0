pub mod OriginLaws
pub mod StayLaws
pub mod WalkLaws
