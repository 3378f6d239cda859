pub mod Lists
pub mod Coded
