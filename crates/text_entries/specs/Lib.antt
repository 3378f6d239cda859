pub mod Entries
pub mod InOrder
