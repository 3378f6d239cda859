pub mod Texts
pub mod Characters
