pub mod Each
pub mod Strands
pub mod Sizes
