pub mod Turned
pub mod Choices
pub mod Trail
pub mod Tests
pub mod TheLedgerIsAnAuditTrail
