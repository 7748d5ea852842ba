-- What a session with a journal does.
use Rattle.std.specs.Prelude.{◌≡◌, ◌<◌, ◌≤◌, ◌⊎◌, ◌↔◌, ℕ, List, Bool, true, false, Option, Some, None, Result, Err}
use Rattle.std.specs.Prelude.{unwrap_or}
use Rattle.auction.specs.ConfigFault.{open_fault}
use Rattle.auction.specs.declared.OpenFault.TheVariants.{NoMemory}
use Rattle.auction_terms.specs.Auxiliary.RunningAuction.{RunningAuction}
use Rattle.journal.specs.declared.day.DayHeader.{DayHeader}
use Rattle.journal_file.specs.Committed.{Means, committed}
use Rattle.journal_file.specs.Device.{LeavesOnly}
use Rattle.journal_file.specs.declared.device.Device.{Ghosts}
use Rattle.journal_file.specs.declared.file.OpenFileFault.{OpenFileFault}
use Rattle.journal_file.specs.declared.file.OpenFileFault.TheVariants.{Busy}
use Rattle.journal_file.specs.declared.journal.CommittedLines.{CommittedLines}
use Rattle.live_session.specs.Begun.{HasBegun, HasNotBegun}
use Rattle.live_session.specs.JournaledRun.{SessionEnds, RunsJournaled, ends_at}
use Rattle.live_session.specs.declared.terms.SessionTerms.{SessionTerms}
use Rattle.live_session.specs.declared.begin_fault.BeginFault.{BeginFault}
use Rattle.live_session.specs.declared.begin_fault.BeginFault.TheVariants as begin
use Rattle.live_session.specs.declared.begin_fault.CutOff.{CutOff}
use Rattle.live_session.specs.declared.begin_fault.ResumeFault.{ResumeFault}
use Rattle.live_session.specs.declared.begin_fault.ResumeFault.TheVariants as resume
use Rattle.live_session.specs.declared.fault.Ending.{Ending}
use Rattle.live_session.specs.declared.fault.LiveFault.{LiveFault}
use Rattle.live_session.specs.declared.fault.LiveFault.TheVariants.{CommitFailed}
use Rattle.settings.specs.declared.types.JournalFile.{JournalFile}
use Rattle.program_runs.specs.FileRun.{Ends}
use Rattle.program_runs.specs.LiveRun.{as_session, session_status, terms_of}
use Rattle.program_runs.specs.Status.{file_status, open_status}
use Rattle.program_runs.specs.declared.journaling.JournaledFault.{JournaledFault}
use Rattle.program_runs.specs.declared.journaling.JournaledFault.TheVariants as journaled

-- 1 for a fault of the file, 2 for another day, 4 for a reply that isn't the lawful one, 3 for refused memory
abbrev pub resume_status : ResumeFault → ℕ
resume_status (resume.File f) = file_status f
resume_status (resume.AnotherDay day) = 2
resume_status (resume.Unlawful entry recorded) = 4

-- 1 for a file that is no journal, or has more behind its lines than a torn commit leaves
abbrev pub begin_status : BeginFault → ℕ
begin_status begin.NotAJournal = 1
begin_status (begin.Resume f) = resume_status f
begin_status (begin.Damaged number bytes) = 1
begin_status f = 3

-- 2 where another session has the file
abbrev pub opening_status : OpenFileFault → ℕ
opening_status Busy = 2
opening_status f = 3

abbrev pub journaled_status : JournaledFault → ℕ
journaled_status (journaled.Day f) = open_status f
journaled_status (journaled.Opening f) = opening_status f
journaled_status (journaled.Begin f) = begin_status f

-- What is known of the files of journals: of their devices, what opening one gives, and why it can't be opened; and how
-- the one that was opened is left.
pub record JournalFiles (D : Type 0) : Type 1 where
  pub device : Ghosts D
  pub Opens : JournalFile → D → Type 0
  pub CannotOpen : JournalFile → OpenFileFault → Type 0
  pub left : Option D

abbrev pub files_of : {D : Type 0} → Ghosts D → (JournalFile → D → Type 0) → (JournalFile → OpenFileFault → Type 0)
    → Option D → JournalFiles D
files_of device Opens CannotOpen left =
    record { device = device; Opens = Opens; CannotOpen = CannotOpen; left = left }

-- The day can be opened, and so could the file: what it had has begun the journal, and left the auction so.
pub record IsBegunFor {D : Type 0} (files : JournalFiles D) (file : JournalFile) (day : DayHeader)
    (journal : CommittedLines D)
    (auction : RunningAuction) : Type 0 where
  pub opens : open_fault day.config ≡ None
  pub device : D
  pub cut : Option CutOff
  pub opened : files.Opens file device
  pub begun : HasBegun files.device day device journal auction cut

-- The file could be opened, and no session begins on what it had: so it is left.
pub record IsNotBegunOn {D : Type 0} (files : JournalFiles D) (file : JournalFile) (day : DayHeader)
    (fault : BeginFault) : Type 0 where
  pub opens : open_fault day.config ≡ None
  pub device : D
  pub opened : files.Opens file device
  pub last : D
  pub left : files.left ≡ Some last
  pub why : HasNotBegun files.device day device last fault

-- no session begins on a file that was opened: so it is left
abbrev pub IsRefusedOn : {D : Type 0} → Ghosts D → DayHeader → D → Option D → JournaledFault → Type 0
IsRefusedOn {D = D} device day opened left (journaled.Begin f) =
    (last : D) × (left ≡ Some last) × HasNotBegun device day opened last f
IsRefusedOn {D = D} device day opened left f = ⊥

-- why a session of this day doesn't begin
abbrev pub IsReason : {D : Type 0} → JournalFiles D → JournalFile → DayHeader → JournaledFault → Type 0
IsReason files file day (journaled.Day f) = f ≡ unwrap_or (open_fault day.config) NoMemory
IsReason files file day (journaled.Opening f) = (open_fault day.config ≡ None) × files.CannotOpen file f
IsReason files file day (journaled.Begin f) = IsNotBegunOn files file day f

-- that of a session, and 3 where its journal couldn't be closed
abbrev pub EndsWithStatus : Result Ending LiveFault → Bool → ℕ → Type 0
EndsWithStatus ended true status = status ≡ session_status (as_session ended)
EndsWithStatus ended false status = status ≡ 3

-- A journal was cut after its lines, unless a commit had failed, after which the file stays as it is, or the file did.
pub record HasClosed {D : Type 0} (device : Ghosts D) (ended : Result Ending LiveFault) (old new : D) (is_closed : Bool)
    : Type 0 where
  pub stays : ended ≡ Err CommitFailed → new ≡ old
  pub leaves : (ended ≡ Err CommitFailed → ⊥)
      → LeavesOnly device.moment device.left_since old new (Means (committed (device.seen old)))
  pub text : is_closed ≡ true → device.seen new ≡ committed (device.seen old)
  pub why : is_closed ≡ false → (ended ≡ Err CommitFailed) ⊎ (device.faults old < device.faults new)

-- A session with a journal ran to its end, and its journal was closed.
pub record RunsToEnd {D : Type 0} (device : Ghosts D) (terms : SessionTerms) (start : RunningAuction)
    (journal : CommittedLines D) (left : D) (before after : List ℕ → ℕ → SessionEnds) (status : ℕ) : Type 0 where
  pub ended : Result Ending LiveFault
  pub last : CommittedLines D
  pub session : RunsJournaled device.seen device.may_leave device.moment device.left_since device.faults terms start
      journal last before after ended
  pub is_closed : Bool
  pub closing : HasClosed device ended last.device left is_closed
  pub status_is : EndsWithStatus ended is_closed status

-- The session didn't begin, for this reason: nothing was read, and nothing written.
pub record HasNotBegunSession {D : Type 0} (files : JournalFiles D) (file : JournalFile) (day : DayHeader) (ends : Ends)
    (status : ℕ) : Type 0 where
  pub why : JournaledFault
  pub reason : IsReason files file day why
  pub status_is : status ≡ journaled_status why
  pub rest : ends.rest ≡ ends.left
  pub new : ends.new ≡ ends.old
  pub none_read : ends.ReadFailed → ⊥
  pub none_written : ends.WriteFailed → ⊥

-- It began on what the file had, ran as any session with a journal does, and closed that: so the file is left.
pub record HasRunJournaledSession {D : Type 0} (files : JournalFiles D) (file : JournalFile)
    (day : DayHeader) (reserve : ℕ) (ends : Ends) (status : ℕ) : Type 0 where
  pub start : RunningAuction
  pub journal : CommittedLines D
  pub begun : IsBegunFor files file day journal start
  pub ended : Result Ending LiveFault
  pub last : CommittedLines D
  pub reads : ℕ
  pub reads_after : ℕ
  pub writes : ℕ
  pub writes_after : ℕ
  pub session : RunsJournaled files.device.seen files.device.may_leave files.device.moment files.device.left_since
      files.device.faults (terms_of day reserve) start journal last (ends_at ends.left ends.old reads writes)
      (ends_at ends.rest ends.new reads_after writes_after) ended
  pub read_failed : ends.ReadFailed ↔ (reads < reads_after)
  pub write_failed : ends.WriteFailed ↔ (writes < writes_after)
  pub is_closed : Bool
  pub closed : CommittedLines D
  pub closing : HasClosed files.device ended last.device closed.device is_closed
  pub left : files.left ≡ Some closed.device
  pub status_is : EndsWithStatus ended is_closed status

-- What came of a session of this day, with `reserve` calls for the operator, whose journal is this file.
pub record RunsJournaledSession {D : Type 0} (files : JournalFiles D) (file : JournalFile) (day : DayHeader)
    (reserve : ℕ) (ends : Ends) (status : ℕ) : Type 0 where
  pub came : HasNotBegunSession files file day ends status ⊎ HasRunJournaledSession files file day reserve ends status
  pub quiet : status ≡ 2 → ends.new ≡ ends.old
  pub read_failed : ends.ReadFailed → status ≡ 3
  pub write_failed : ends.WriteFailed → status ≡ 3
  pub small : status ≤ 4
