pub mod Examples
pub mod Worth
