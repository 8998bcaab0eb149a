pub mod Checks
pub mod Admitted
