pub mod Choice
pub mod Price
pub mod Chosen
