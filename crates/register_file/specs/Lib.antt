pub mod Contexts
pub mod Lending
pub mod Parts
pub mod Values
