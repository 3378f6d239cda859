pub mod Parts
pub mod Grid
