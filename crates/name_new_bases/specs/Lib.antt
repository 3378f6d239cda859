pub mod Bases
pub mod Steps
