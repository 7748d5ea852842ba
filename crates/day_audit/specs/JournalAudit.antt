-- What an audit of a journal owes.
use Rattle.std.specs.Prelude.{◌≡◌, ℕ, Bool, List, Option, None, unwrap_or, Result, Ok, Err}
use Rattle.std.specs.Io.KnownBytes.{Appends}
use Rattle.byte_streams.specs.Streams.{AppendsBeginning}
use Rattle.auction.specs.ConfigFault.{open_fault}
use Rattle.auction.specs.declared.OpenFault.TheVariants.{NoMemory}
use Rattle.order_file.specs.File.{FailsAsWanted}
use Rattle.order_file.specs.declared.fault.FileFault.{FileFault}
use Rattle.day_audit.specs.declared.counts.Audited.{Audited}
use Rattle.day_audit.specs.declared.fault.AuditFault.{AuditFault}
use Rattle.day_audit.specs.declared.fault.AuditFault.TheVariants.{File, Open, WriteFailed}
use Rattle.day_road.specs.ReplyPairs.{pairs_in}
use Rattle.day_audit.specs.AuditCounts.{counts_of}
use Rattle.day_audit.specs.JournalCopies.{JournalCopy}
use Rattle.day_audit.specs.ResultsText.{copy_text}

-- the whole lines' replies were counted, and the bytes behind them
abbrev pub IsFoundOfCopy : JournalCopy → Audited → Type 0
IsFoundOfCopy copy audited = (audited.counts ≡ counts_of (pairs_in copy.recorded)) × (audited.behind ≡ copy.behind)

-- What was counted and written, with or without the results, by what the copy of a journal says; a fault of the
-- journal comes before one of its day.
abbrev pub IsAuditOf : Bool → Option (List ℕ) → Option (List ℕ) → Result JournalCopy FileFault
    → Result Audited AuditFault → Type 0
IsAuditOf results old new said (Err (File f)) = FailsAsWanted f said
IsAuditOf results old new (Ok copy) (Err (Open f)) = f ≡ unwrap_or (open_fault copy.recorded.day.config) NoMemory
IsAuditOf results old new (Ok copy) (Err WriteFailed) =
    (open_fault copy.recorded.day.config ≡ None) × AppendsBeginning old new (copy_text results copy)
IsAuditOf results old new (Ok copy) (Ok audited) =
    (open_fault copy.recorded.day.config ≡ None) × IsFoundOfCopy copy audited × Appends old new (copy_text results copy)
IsAuditOf results old new (Err f) r = ⊥

-- nothing was written but by an audit that failed to write
abbrev pub KeepsText : Option (List ℕ) → Option (List ℕ) → AuditFault → Type 0
KeepsText old new WriteFailed = Unit {0}
KeepsText old new f = new ≡ old
