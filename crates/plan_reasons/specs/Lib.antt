pub mod Reasons
pub mod Words
