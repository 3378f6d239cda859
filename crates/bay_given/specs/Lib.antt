pub mod Given
pub mod Filling
