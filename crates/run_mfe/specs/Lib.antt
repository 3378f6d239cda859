pub mod RunBy
pub mod Run
