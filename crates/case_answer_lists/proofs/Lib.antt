pub mod Bytes
pub mod Examples
pub mod Listing
