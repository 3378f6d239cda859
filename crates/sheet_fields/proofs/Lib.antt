pub mod Answers
pub mod Bounds
pub mod Faults
pub mod Passing
pub mod Quotes
pub mod Runs
pub mod Scanning
