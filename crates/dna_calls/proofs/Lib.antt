pub mod Refused
pub mod Unique
pub mod Starred
