pub mod Paths
pub mod Rooms
