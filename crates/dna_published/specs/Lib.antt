pub mod PublishedSums
