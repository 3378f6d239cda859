pub mod Lengths
pub mod Written
