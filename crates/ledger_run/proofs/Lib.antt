pub mod Clearing
pub mod Lowest
pub mod Running
pub mod TheRunIsRight
pub mod Computed
