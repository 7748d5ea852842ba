-- What an audit of a journal writes.
use Rattle.std.specs.Prelude.{◌≡◌, ◌==◌, ℕ, Bool, Option, Some, None, if◌then◌else◌}
use Rattle.auction.specs.ConfigFault.{open_fault}
use Rattle.day_road.specs.ReplyPairs.{pairs_in}
use Rattle.day_audit.specs.AuditCounts.{counts_of}
use Rattle.day_audit.specs.JournalCopies.{JournalCopy, journal_copy}
use Rattle.day_audit.specs.ResultsText.{copy_text}
use Rattle.day_audit.specs.declared.fault.AuditFault.{AuditFault}
use Rattle.day_audit.specs.declared.fault.AuditFault.TheVariants.{File, Open, WriteFailed}
use Rattle.program_runs.specs.declared.fault.Fault.{Fault}
use Rattle.program_runs.specs.declared.fault.Fault.TheVariants as fault
use Rattle.program_runs.specs.declared.fault.Finish.{Finish}
use Rattle.program_runs.specs.declared.fault.Finish.TheVariants.{Incomplete, Lawful, Unlawful}
use Rattle.program_runs.specs.FileRun.{Ends, Job, IsRunOf, IsWithoutBoard}
use Rattle.program_runs.specs.Status.{RunResult}

-- A day with an unlawful reply is unlawful. Without one it is lawful where nothing is behind the whole lines of its
-- journal.
abbrev pub finish_of : Option ℕ → ℕ → Finish
finish_of (Some first_unlawful) behind = Unlawful
finish_of None behind = if behind == 0 then Lawful else Incomplete

-- the fault of an audit as one of a run
abbrev pub fault_of_audit : AuditFault → Fault
fault_of_audit (File f) = fault.File f
fault_of_audit (Open f) = fault.Open f
fault_of_audit WriteFailed = fault.WriteFailed

-- the replies in the whole lines of a journal, compared with the lawful ones, with or without the results of its day
abbrev pub audit_job : Bool → Job
audit_job results = record {
  Given = JournalCopy;
  says = journal_copy;
  opening = λ copy. open_fault copy.recorded.day.config;
  Text = λ copy finish text.
      (finish ≡ finish_of (counts_of (pairs_in copy.recorded)).first_unlawful copy.behind)
      × (text ≡ copy_text results copy);
  Faults = IsWithoutBoard;
}

abbrev pub RunsAudit : Bool → Ends → RunResult → Type 0
RunsAudit results = IsRunOf (audit_job results)
