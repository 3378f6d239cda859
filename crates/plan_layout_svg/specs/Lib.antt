pub mod Frame
pub mod Drawing
