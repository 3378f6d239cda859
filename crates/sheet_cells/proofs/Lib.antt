pub mod Counts
pub mod Quotes
pub mod Records
pub mod Sheets
