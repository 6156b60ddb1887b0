pub mod Names
pub mod NameLaws
