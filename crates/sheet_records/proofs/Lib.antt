mod Examples
pub mod Records
pub mod Tables
pub mod Widths
