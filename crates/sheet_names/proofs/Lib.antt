pub mod Appending
mod Examples
pub mod Filling
pub mod FrontFilling
pub mod Fronts
pub mod ReadBack
pub mod Unquoting
