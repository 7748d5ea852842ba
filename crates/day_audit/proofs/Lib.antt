pub mod AnswerLaws
pub mod FoundLaws
pub mod JournalAuditLaws
pub mod LegalAuditLaws
pub mod WholeCopyLaws
