pub mod Seeds
