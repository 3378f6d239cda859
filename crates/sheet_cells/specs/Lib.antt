pub mod Cells
pub mod Checks
