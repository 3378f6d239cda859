pub mod Seeds
pub mod Ranges
pub mod Fine
pub mod Unique
