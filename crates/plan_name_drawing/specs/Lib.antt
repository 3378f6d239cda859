pub mod Escaped
pub mod Letters
