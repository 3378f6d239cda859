pub mod Legal
pub mod Layouts
pub mod OnGrid
