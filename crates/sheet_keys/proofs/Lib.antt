pub mod Checking
mod Examples
pub mod Seconds
