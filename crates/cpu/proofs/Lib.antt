pub mod Ends
pub mod Leading
pub mod Lists
pub mod Openings
pub mod Settled
pub mod Turning
pub mod Waking
