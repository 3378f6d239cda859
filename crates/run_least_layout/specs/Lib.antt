pub mod Run
pub mod Layouts
