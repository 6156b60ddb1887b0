pub mod MapLaws
pub mod MissingLaws
pub mod OneMap
pub mod PublicLaws
pub mod SourceLaws
