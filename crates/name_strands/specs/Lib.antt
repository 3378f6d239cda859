pub mod Numerals
pub mod Names
