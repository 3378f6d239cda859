pub mod Walk
pub mod Bounds
pub mod Same
pub mod InOrder
pub mod Tested
