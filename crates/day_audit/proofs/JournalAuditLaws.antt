-- What an audit of a journal comes to.
use Rattle.std.proofs.Common.{◌≡◌, ℕ, Bool, List, Option, Some, None, Ok, Err}
use Rattle.std.specs.Prelude.{IfSome, unwrap_or}
use Rattle.std.specs.Io.KnownBytes.{Appends}
use Rattle.byte_streams.specs.Streams.{AppendsBeginning}
use Rattle.auction.specs.ConfigFault.{open_fault}
use Rattle.auction.specs.declared.OpenFault.{OpenFault}
use Rattle.auction.specs.declared.OpenFault.TheVariants.{NoMemory}
use Rattle.day_audit.specs.declared.counts.Audited.{Audited}
use Rattle.day_audit.specs.declared.fault.AuditFault.TheVariants.{Open, WriteFailed}
use Rattle.day_audit.specs.JournalCopies.{JournalCopy, journal_copy}
use Rattle.day_audit.specs.ResultsText.{copy_text}
use Rattle.day_audit.specs.JournalAudit.{IsAuditOf, IsFoundOfCopy}

pub audit-open : (results : Bool) (left old new : Option (List ℕ)) (copy : JournalCopy) (f : OpenFault)
    → IfSome left (λ bytes. journal_copy bytes ≡ Ok copy)
    → f ≡ unwrap_or (open_fault copy.recorded.day.config) NoMemory
    → IfSome left (λ bytes. IsAuditOf results old new (journal_copy bytes) (Err (Open f)))
audit-open results None old new copy f h e = tt
audit-open results (Some bytes) old new copy f h e = rw h e

pub audit-begun : (results : Bool) (left old new : Option (List ℕ)) (copy : JournalCopy)
    → IfSome left (λ bytes. journal_copy bytes ≡ Ok copy)
    → open_fault copy.recorded.day.config ≡ None
    → AppendsBeginning old new (copy_text results copy)
    → IfSome left (λ bytes. IsAuditOf results old new (journal_copy bytes) (Err WriteFailed))
audit-begun results None old new copy h e w = tt
audit-begun results (Some bytes) old new copy h e w = rw h (e, w)

pub audit-done : (results : Bool) (left old new : Option (List ℕ)) (copy : JournalCopy) (audited : Audited)
    → IfSome left (λ bytes. journal_copy bytes ≡ Ok copy) → open_fault copy.recorded.day.config ≡ None
    → IsFoundOfCopy copy audited → Appends old new (copy_text results copy)
    → IfSome left (λ bytes. IsAuditOf results old new (journal_copy bytes) (Ok audited))
audit-done results None old new copy audited h e c w = tt
audit-done results (Some bytes) old new copy audited h e c w = rw h (e, c, w)
