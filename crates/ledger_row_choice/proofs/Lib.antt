pub mod Reading
pub mod Leaving
