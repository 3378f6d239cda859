pub mod Values
pub mod Refusals
