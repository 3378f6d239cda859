pub mod Register
pub mod Steps
