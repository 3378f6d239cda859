pub mod Hundredths
