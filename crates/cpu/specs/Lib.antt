pub mod Ends
pub mod Logs
pub mod Marks
pub mod Sound
pub mod Turns
pub mod UnderWay
