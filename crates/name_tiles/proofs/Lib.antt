pub mod Tile
pub mod Shown
pub mod Unique
