pub mod FindLaws
pub mod KeyLaws
pub mod DefiningLaws
