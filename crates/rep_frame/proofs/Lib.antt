pub mod Slicing
pub mod Settings
pub mod Numbers
pub mod Writes
