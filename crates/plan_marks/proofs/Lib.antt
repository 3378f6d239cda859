pub mod Placed
pub mod LegalByCode
pub mod KeptByMark
pub mod Examples
pub mod Unique
