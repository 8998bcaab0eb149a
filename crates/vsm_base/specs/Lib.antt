pub mod InMemory
pub mod Levels
pub mod Masks
pub mod Names
pub mod Outside
pub mod OverStd
pub mod Whole
