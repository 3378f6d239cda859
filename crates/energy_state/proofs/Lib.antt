pub mod Passed
pub mod Answering
pub mod Unique
pub mod Worked
