pub mod EachSeed
pub mod Sized
