pub mod FrameLaws
pub mod OverlapLaws
pub mod WideLaws
