pub mod Lines
pub mod Examples
