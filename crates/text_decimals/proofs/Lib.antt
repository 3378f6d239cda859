pub mod Quotients
pub mod Digits
pub mod Parts
mod Examples
