pub mod CellLaws
pub mod Theorems
pub mod Examples
