pub mod Scaling
pub mod Texts
pub mod Within
mod Examples
