pub mod AliasLaws
pub mod CircleLaws
