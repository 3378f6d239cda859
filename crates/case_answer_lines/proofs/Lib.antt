pub mod Examples
pub mod Refusing
