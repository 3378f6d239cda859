pub mod Chains
pub mod Examples
pub mod LegalByRule
pub mod RulesInWords
pub mod SetsByReason
