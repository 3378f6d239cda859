pub mod Characters
pub mod Strays
pub mod Tests
pub mod Soundness
pub mod Completeness
pub mod Meaning
pub mod Examples
