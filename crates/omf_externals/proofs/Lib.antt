pub mod NameLaws
pub mod RepeatedLaws
pub mod SettledLaws
pub mod UnresolvedLaws
