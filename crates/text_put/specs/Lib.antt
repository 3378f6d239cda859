pub mod Words
pub mod Puts
pub mod Forms
