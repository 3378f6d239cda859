pub mod Tracing
pub mod Places
