pub mod Registering
pub mod Unique
