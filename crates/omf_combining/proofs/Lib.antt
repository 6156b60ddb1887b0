pub mod ClassLaws
pub mod StackLaws
