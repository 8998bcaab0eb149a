pub mod Acts
pub mod Asking
pub mod AtOnce
pub mod Attempts
pub mod Budgets
mod BusyWords
pub mod Finishes
pub mod First
pub mod Reports
pub mod Serves
pub mod Starting
pub mod Turning
pub mod Wholes
