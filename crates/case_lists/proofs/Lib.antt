pub mod Examples
pub mod Filling
pub mod Reading
pub mod Signs
