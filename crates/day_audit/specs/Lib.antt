pub mod JournalCopies
pub mod AuditCounts
pub mod AuditText
pub mod Found
pub mod ResultsText
pub mod JournalAudit
pub mod AuditPromises
