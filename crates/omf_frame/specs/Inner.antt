pub mod Faulty
pub mod FieldLaws
pub mod Judging
pub mod Standing
pub mod Names
