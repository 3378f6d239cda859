pub mod Tables
pub mod Limits
