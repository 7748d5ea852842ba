-- What holds of audits.
use Rattle.std.specs.Prelude.{◌≡◌, ◌≤◌, ◌⊎◌, ◌↔◌, List, [], length, map, None, Ok}
use Rattle.std.specs.List.{AllByRecursion}
use Rattle.auction_terms.specs.declared.Entry.{Entry}
use Rattle.auction_terms.specs.Day.{IsLegal, calls_of}
use Rattle.journal.specs.DayRecord.{FitsDay}
use Rattle.journal.specs.JournalFile.{RecordedDay, journal, recorded_day}
use Rattle.journal.specs.JournalPromises.{FitsJournal, HasUniqueText, HasWideReplies}
use Rattle.journal.specs.JournalText.{journal_text, recorded_call_by}
use Rattle.journal.specs.declared.day.DayHeader.{DayHeader}
use Rattle.day_road.specs.ReplyPairs.{ReplyPair, pairs_in}
use Rattle.day_audit.specs.AuditCounts.{counts_of}

-- no reply was recorded, or the lawful one
abbrev pub IsSilentOrLawful : ReplyPair → Type 0
IsSilentOrLawful a = (a.recorded ≡ []) ⊎ (a.recorded ≡ a.lawful)

-- the audit finds nothing unlawful
abbrev pub IsAuditedLegal : List ReplyPair → Type 0
IsAuditedLegal pairs = (counts_of pairs).first_unlawful ≡ None

-- exactly where each recorded reply is the lawful one
abbrev pub LegalExactly : Type 0
LegalExactly = (pairs : List ReplyPair) → IsAuditedLegal pairs ↔ AllByRecursion IsSilentOrLawful pairs

-- the printed journal of a lawful history is read, and audited legal
abbrev pub PrintedIsLegal : Type 0
PrintedIsLegal =
    (day : DayHeader) (entries : List Entry) → FitsDay day → AllByRecursion (FitsJournal day.members) entries
    → IsLegal day.config entries
    → (j : RecordedDay) × (journal (journal_text day entries) ≡ Ok j) × IsAuditedLegal (pairs_in j)

-- and what is audited legal with all its replies recorded is a lawful history
abbrev pub LegalIsLawful : Type 0
LegalIsLawful = (day : DayHeader) (entries : List Entry) → length entries ≤ day.config.max_calls
    → AllByRecursion HasUniqueText (map (λ entry. entry.reply) entries) → HasWideReplies day.config (calls_of entries)
    → IsAuditedLegal (pairs_in (recorded_day day (map recorded_call_by entries))) → IsLegal day.config entries
