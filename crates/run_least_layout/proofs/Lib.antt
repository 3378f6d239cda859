pub mod Meaning
pub mod Fillings
pub mod TheRunIsRight
pub mod Passed
