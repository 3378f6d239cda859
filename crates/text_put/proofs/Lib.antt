pub mod Examples
pub mod Putting
pub mod Spelling
