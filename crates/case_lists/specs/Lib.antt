pub mod Lists
pub mod Text
