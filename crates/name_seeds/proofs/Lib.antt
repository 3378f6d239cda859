pub mod Triples
pub mod Chain
pub mod Found
pub mod Unique
