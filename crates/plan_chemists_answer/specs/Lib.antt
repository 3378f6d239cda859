pub mod ChemistsAnswer
