pub mod SeedOf
pub mod SeedBelow
pub mod Sound
pub mod StrandBelow
pub mod ChemistsQuestion
pub mod Worked
