pub mod Blocks
pub mod PartView
pub mod Plans
pub mod Sound
pub mod TestView
pub mod Turns
