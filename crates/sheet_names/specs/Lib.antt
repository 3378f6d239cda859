pub mod Appended
pub mod FrontFilled
