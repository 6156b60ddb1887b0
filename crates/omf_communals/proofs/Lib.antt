pub mod ExternalLaws
pub mod FieldSteps
pub mod ModuleLaws
pub mod StayLaws
pub mod WalkLaws
