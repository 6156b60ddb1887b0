pub mod AcceptedLaws
pub mod FileLaws
pub mod ModuleLaws
pub mod SameLaws
pub mod CheckedLaws
