pub mod Fields
pub mod TwoCalls
pub mod TheChemistsAnswer
