pub mod NumberLists
pub mod Counts
