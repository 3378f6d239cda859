pub mod Resting
pub mod Examples
