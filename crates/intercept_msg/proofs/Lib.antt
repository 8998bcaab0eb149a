pub mod Decoded
pub mod InWords
pub mod Parts
pub mod ReadBack
