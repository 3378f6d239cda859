pub mod Bays
