pub mod JournalView
pub mod TablesOf
