pub mod Stepping
pub mod Position
pub mod Backing
pub mod Tracking
