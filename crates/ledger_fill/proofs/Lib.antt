pub mod Agrees
pub mod Sizes
pub mod Filling
