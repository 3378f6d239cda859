pub mod Naming
pub mod Ends
pub mod Restricting
