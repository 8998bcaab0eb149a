pub mod Answers
pub mod Stays
