pub mod Passed
pub mod Filling
