pub mod Choices
pub mod ChosenSets
pub mod ThePriceIsRight
pub mod Unique
pub mod Examples
