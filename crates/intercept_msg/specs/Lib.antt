pub mod Candidate
pub mod Layout
pub mod Told
