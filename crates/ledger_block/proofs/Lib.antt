pub mod Over
pub mod Lining
pub mod Beside
pub mod Blocking
