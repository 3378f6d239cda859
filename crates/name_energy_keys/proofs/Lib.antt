pub mod KeyLaws
pub mod Unique
