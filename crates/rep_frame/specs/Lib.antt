pub mod Asks
pub mod Ends
pub mod Frames
pub mod Slices
