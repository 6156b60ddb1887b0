pub mod CountLaws
pub mod FieldSteps
pub mod OriginLaws
pub mod PartLaws
pub mod ReadLaws
pub mod WalkLaws
