pub mod Places
pub mod Brought
pub mod TooMany
pub mod Numbers
pub mod Later
pub mod Tables
pub mod Worked
