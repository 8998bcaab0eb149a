pub mod SynicView
pub mod Ends
