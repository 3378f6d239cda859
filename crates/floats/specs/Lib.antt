pub mod Values
pub mod Least
pub mod Fractions
pub mod Rounding
