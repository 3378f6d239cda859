pub mod Examples
pub mod Grids
pub mod Reading
pub mod UniqueReading
pub mod UniqueWriting
pub mod Writing
