pub mod Reading
pub mod Unique
