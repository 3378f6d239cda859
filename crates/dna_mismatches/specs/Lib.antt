pub mod Mismatches
