pub mod Rows
pub mod AuditTrail
