pub mod Grids
pub mod Promised
pub mod Unique
