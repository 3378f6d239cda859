-- What a set of strands is: as a number, in several words, and as a walk. Assumes nothing.
pub mod Set
pub mod Several
pub mod Walk
