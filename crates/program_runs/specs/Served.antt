-- What the program answers to its arguments.
use Rattle.std.specs.Prelude.{◌≡◌, Option, ◌≤◌, ◌≢◌, ◌⊎◌, ℕ, List, Some, None, Bool, true, false}
use Rattle.clap.specs.Kinds.{IsAmong}
use Rattle.clap.specs.Simple.{matches_of}
use Rattle.clap.specs.Walk.{Text}
use Rattle.clap.specs.declared.error.kind.ErrorKind.{ErrorKind}
use Rattle.clap.specs.declared.error.kind.ErrorKind.TheVariants.{DisplayHelp, DisplayVersion, OutOfMemory}
use Rattle.journal.specs.declared.day.DayHeader.{DayHeader}
use Rattle.journal_file.specs.OpenedFile.{has_syncs, opened_file}
use Rattle.journal_file.specs.Tracked.{tracked_device}
use Rattle.journal_file.specs.declared.file.Opened.{Opened}
use Rattle.journal_file.specs.declared.tracked.Tracked.{Tracked}
use Rattle.settings.specs.CommandLine.{AcceptsArguments, RefusesArguments, argument_kinds}
use Rattle.settings.specs.Options.{callboard}
use Rattle.settings.specs.Ranges.{IsInRange}
use Rattle.settings.specs.Tasks.{task_at}
use Rattle.settings.specs.declared.fault.ArgumentsFault.TheVariants.{AuditNotAlone, LiveNotAlone, ResultsWithoutAudit}
use Rattle.settings.specs.declared.fault.ArgumentsFault.TheVariants.{SyncWithoutJournal, WithoutLive}
use Rattle.settings.specs.declared.types.JournalFile.{JournalFile}
use Rattle.settings.specs.declared.types.Settings.{Settings}
use Rattle.settings.specs.declared.types.Task.{Task}
use Rattle.settings.specs.declared.types.Task.TheVariants.{Audit, Floor, Live, Run}
use Rattle.program_runs.specs.AuctionRun.{auction_job}
use Rattle.program_runs.specs.AuditRun.{audit_job}
use Rattle.program_runs.specs.BoardRun.{board_job}
use Rattle.program_runs.specs.FileRun.{Ends, Job, IsRunOf, ends_by}
use Rattle.program_runs.specs.JournaledLive.{JournalFiles, RunsJournaledSession, files_of}
use Rattle.program_runs.specs.LiveRun.{SessionResult, RunsLive, session_status}
use Rattle.program_runs.specs.Status.{RunResult, run_status}

-- the job was run, and the status is that of the run
abbrev pub RunsJobForStatus : Job → Ends → ℕ → Type 0
RunsJobForStatus job ends status = (run : RunResult) × IsRunOf job ends run × (status ≡ run_status run)

-- the records of the input were answered as they came, and the status is that of the session
abbrev pub RunsSession : DayHeader → ℕ → Ends → ℕ → Type 0
RunsSession day reserve ends status =
    (ended : SessionResult) × RunsLive day reserve ends ended × (status ≡ session_status ended)

-- what is done with an input, which is of this day where it says no other
abbrev pub DoesTask : {D : Type 0} → JournalFiles D → DayHeader → Option JournalFile → Task → Ends → ℕ → Type 0
DoesTask files day journal (Run form) = RunsJobForStatus (auction_job day form)
DoesTask files day journal (Floor form) = RunsJobForStatus (board_job day form)
DoesTask files day journal (Audit results) = RunsJobForStatus (audit_job results)
DoesTask files day None (Live reserve) = RunsSession day reserve
DoesTask files day (Some file) (Live reserve) = RunsJournaledSession files file day reserve

-- the day that the settings say
abbrev pub day_of_settings : Settings → DayHeader
day_of_settings s = record { config = s.config; members = s.members }

-- with the input was done what the settings say
abbrev pub ServesSettings : {D : Type 0} → JournalFiles D → Settings → Ends → ℕ → Type 0
ServesSettings files s = DoesTask files (day_of_settings s) s.journal s.task

-- 0 where the arguments ask for help, 3 for refused memory, and 2 where the arguments are wrong
abbrev pub arguments_status : ErrorKind → ℕ
arguments_status DisplayHelp = 0
arguments_status DisplayVersion = 0
arguments_status OutOfMemory = 3
arguments_status kind = 2

-- The arguments ask for help or are wrong, or memory was wanted to read or to answer them. The status says so, or is 3
-- where the help couldn't be printed; nothing but help is printed, and nothing is read.
pub record AnswersArguments (arguments : List Text) (ends : Ends) (status : ℕ) : Type 0 where
  pub kind : ErrorKind
  pub one_of : (kind ≡ OutOfMemory) ⊎ IsAmong kind (argument_kinds arguments)
  pub status_is : (status ≡ arguments_status kind) ⊎ ends.WriteFailed
  pub quiet : arguments_status kind ≢ 0 → ends.new ≡ ends.old
  pub none_read : ends.ReadFailed → ⊥
  pub write_failed : ends.WriteFailed → status ≡ 3

-- The arguments ask for an audit that isn't alone, for answers as records come that aren't, or for what goes with
-- either without it. The status is 2; nothing is printed, and nothing is read.
pub record RefusesMix (arguments : List Text) (ends : Ends) (status : ℕ) : Type 0 where
  pub refused : RefusesArguments arguments AuditNotAlone
      ⊎ (RefusesArguments arguments LiveNotAlone ⊎ (RefusesArguments arguments ResultsWithoutAudit
      ⊎ (RefusesArguments arguments WithoutLive ⊎ RefusesArguments arguments SyncWithoutJournal)))
  pub status_is : status ≡ 2
  pub quiet : ends.new ≡ ends.old
  pub none_read : ends.ReadFailed → ⊥
  pub none_written : ends.WriteFailed → ⊥

-- arguments that say no settings were answered
abbrev pub AnswersFault : List Text → Ends → ℕ → Type 0
AnswersFault arguments ends status = AnswersArguments arguments ends status ⊎ RefusesMix arguments ends status

-- the arguments say settings, each in its range, which were served, or they were answered
abbrev pub AnswersCommandLine : {D : Type 0} → JournalFiles D → List Text → Ends → ℕ → Type 0
AnswersCommandLine files arguments ends status =
    ((s : Settings) × AcceptsArguments arguments s × IsInRange s × ServesSettings files s ends status)
    ⊎ AnswersFault arguments ends status

-- records are answered as they come
abbrev pub is_session : Option Task → Bool
is_session (Some (Live reserve)) = true
is_session task = false

-- a bad command line or bounds, or a bad input but for one whose records are answered as they come
abbrev pub IsQuiet : List Text → ℕ → Type 0
IsQuiet arguments status = (status ≡ 2) ⊎ ((status ≡ 1)
    × (is_session (task_at (matches_of callboard arguments)) ≡ false))

-- What the program does on these arguments, and what that says of its status: a bad command line or input prints
-- nothing but in a session, and a read or a write that fails is 3.
pub record ServesArguments {D : Type 0} (files : JournalFiles D) (arguments : List Text) (ends : Ends) (status : ℕ)
    : Type 0 where
  pub answer : AnswersCommandLine files arguments ends status
  pub quiet : IsQuiet arguments status → ends.new ≡ ends.old
  pub read_failed : ends.ReadFailed → status ≡ 3
  pub write_failed : ends.WriteFailed → status ≡ 3
  pub few : status ≤ 5

-- A file is synced with each commit where that is asked for, and else never.
abbrev pub OpensAsAsked : JournalFile → Tracked Opened → Type 0
OpensAsAsked file device = has_syncs device ≡ file.is_synced

-- the files of the file system, of which no clause says what they hold
abbrev pub host_files : Option (Tracked Opened) → JournalFiles (Tracked Opened)
host_files left = files_of (tracked_device opened_file) OpensAsAsked (λ file fault. Unit {0}) left

-- a status that the program answers to some arguments with some ends
abbrev pub IsAnswer : ℕ → Type 0
IsAnswer status = (arguments : List Text) × (left rest old new : Option (List ℕ))
    × (reads reads_after writes writes_after : ℕ) × (file : Option (Tracked Opened))
    × AnswersCommandLine (host_files file) arguments (ends_by left rest old new reads reads_after writes writes_after)
    status
