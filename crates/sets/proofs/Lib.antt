-- The laws of sets, a file for each subject. Assumes nothing.
pub mod Bits
pub mod Build
pub mod Members
pub mod NextMember
pub mod Operations
pub mod Taking
pub mod Several
pub mod Walk
pub mod Words
