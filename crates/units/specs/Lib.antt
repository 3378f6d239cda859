pub mod Limits
pub mod Decimals
pub mod Refusals
pub mod Kelvin
pub mod Finite
pub mod Places
pub mod Glues
