pub mod Names
pub mod Glues
pub mod Starred
