pub mod MatrixLaws
pub mod InSide
