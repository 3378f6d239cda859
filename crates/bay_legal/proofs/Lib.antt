pub mod Fronts
pub mod Emptiness
pub mod Seven
pub mod Unique
