mod Examples
pub mod Gluing
