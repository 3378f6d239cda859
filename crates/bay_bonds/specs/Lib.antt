pub mod Bonds
pub mod Readable
