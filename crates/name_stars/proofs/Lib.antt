pub mod BeforeStars
