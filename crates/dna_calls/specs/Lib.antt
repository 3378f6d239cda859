pub mod Single
pub mod Hundredths
pub mod Starred
