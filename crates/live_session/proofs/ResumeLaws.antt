-- A session that doesn't go on.
use Rattle.std.proofs.Common.{Result, Ok, Err, refl, inl, inr}
use Rattle.journal.specs.JournalFile.{RecordedDay}
use Rattle.order_file.specs.File.{FailsAsWanted, IsOfRecord}
use Rattle.order_file.specs.declared.fault.FileFault.{FileFault}
use Rattle.order_file.specs.declared.fault.FileFault.TheVariants as file_fault
use Rattle.journal.specs.declared.day.DayHeader.{DayHeader}
use Rattle.live_session.specs.Resumed.{IsResumedFrom}
use Rattle.live_session.specs.declared.begin_fault.ResumeFault.TheVariants as resume_fault

without_memory : (day : DayHeader) (said : Result RecordedDay FileFault)
    → IsResumedFrom day said (Err (resume_fault.File file_fault.NoMemory))
without_memory day (Ok j) = refl
without_memory day (Err f) = inr refl

-- lines that are no journal, or at fault as one
pub never_a_journal : (day : DayHeader) (said : Result RecordedDay FileFault) (f : FileFault) → FailsAsWanted f said
    → IsOfRecord f → IsResumedFrom day said (Err (resume_fault.File f))
never_a_journal day said file_fault.TooLong h parsed = absurd parsed
never_a_journal day said file_fault.ReadFailed h parsed = absurd parsed
never_a_journal day said (file_fault.BadMember number) h parsed = rw h (inl refl)
never_a_journal day said (file_fault.BadCommand number) h parsed = rw h (inl refl)
never_a_journal day said (file_fault.BadCount number) h parsed = rw h (inl refl)
never_a_journal day said (file_fault.BadField number field) h parsed = rw h (inl refl)
never_a_journal day said (file_fault.TooManyCommands number) h parsed = rw h (inl refl)
never_a_journal day said file_fault.NotADay h parsed = rw h (inl refl)
never_a_journal day said file_fault.NoMemory h parsed = without_memory day said
