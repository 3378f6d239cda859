pub mod Tests
pub mod Tables
pub mod Verdicts
pub mod Unique
pub mod Decimals
pub mod Places
pub mod Sides
