pub mod Answers
pub mod Fields
pub mod Runs
pub mod Scan
