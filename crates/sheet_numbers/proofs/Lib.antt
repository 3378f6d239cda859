mod Examples
pub mod Pairs
pub mod QuotedNumbers
pub mod Walk
