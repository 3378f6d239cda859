pub mod Sets
pub mod Seven
