pub mod StateG
