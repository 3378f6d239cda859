pub mod Sums
pub mod Bound
