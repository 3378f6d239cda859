pub mod Bases
pub mod Letters
