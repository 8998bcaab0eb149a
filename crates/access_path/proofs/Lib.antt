pub mod Granted
pub mod Tables
