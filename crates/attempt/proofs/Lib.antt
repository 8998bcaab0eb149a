pub mod ContextGiven
pub mod Goes
pub mod Polls
pub mod Puts
pub mod Sendings
pub mod Steps
pub mod Tables
