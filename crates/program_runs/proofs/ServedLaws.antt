-- What the program answers, by what it was asked to do.
use Rattle.std.proofs.Common.{◌≡◌, ◌≢◌, ◌≤◌, ◌⊎◌, ◌∙◌, ℕ, List, Option, None, Some, false, Ok, Err, inl, inr}
use Rattle.std.proofs.Common.{ap, arith, refl, subst, sym}
use Rattle.auction.specs.declared.OpenFault.{OpenFault}
use Rattle.auction.specs.declared.OpenFault.TheVariants as opening
use Rattle.clap.specs.Walk.{Text}
use Rattle.clap.specs.declared.error.kind.ErrorKind.{ErrorKind}
use Rattle.clap.specs.declared.error.kind.ErrorKind.TheVariants as kinds
use Rattle.journal.specs.declared.day.DayHeader.{DayHeader}
use Rattle.live_session.specs.declared.fault.Ending.TheVariants.{AllGood, SomeBad}
use Rattle.order_file.specs.declared.fault.FileFault.{FileFault}
use Rattle.order_file.specs.declared.fault.FileFault.TheVariants as file
use Rattle.settings.specs.CommandLine.{AcceptsArguments}
use Rattle.settings.specs.Ranges.{IsInRange}
use Rattle.settings.specs.declared.types.JournalFile.{JournalFile}
use Rattle.settings.specs.declared.types.Settings.{Settings}
use Rattle.settings.specs.declared.types.Task.{Task}
use Rattle.settings.specs.declared.types.Task.TheVariants.{Audit, Floor, Live, Run}
use Rattle.program_runs.specs.AuctionRun.{auction_job}
use Rattle.program_runs.specs.AuditRun.{audit_job}
use Rattle.program_runs.specs.BoardRun.{board_job}
use Rattle.program_runs.specs.FileRun.{Ends, IsRunOf, Job}
use Rattle.program_runs.specs.JournaledLive.{JournalFiles, RunsJournaledSession}
use Rattle.program_runs.specs.LiveRun.{RunsLive, SessionResult, session_status}
use Rattle.program_runs.specs.Served.{AnswersFault, DoesTask, ServesArguments, ServesSettings, day_of_settings}
use Rattle.program_runs.specs.Served.{is_session, arguments_status}
use Rattle.program_runs.specs.Status.{RunResult, file_status, open_status, run_status}
use Rattle.program_runs.specs.declared.fault.Fault.TheVariants as fault
use Rattle.program_runs.specs.declared.fault.Finish.TheVariants.{Incomplete, Lawful, Unlawful}
use Rattle.program_runs.specs.declared.live.SessionFault.TheVariants as session

pub file-small : (f : FileFault) → file_status f ≤ 4
file-small file.TooLong = omega arith
file-small file.ReadFailed = omega arith
file-small (file.BadMember n) = omega arith
file-small (file.BadCommand n) = omega arith
file-small (file.BadCount n) = omega arith
file-small (file.BadField n k) = omega arith
file-small (file.TooManyCommands n) = omega arith
file-small file.NotADay = omega arith
file-small file.NoMemory = omega arith

pub open-small : (f : OpenFault) → open_status f ≤ 4
open-small opening.BadBounds = omega arith
open-small opening.BadReference = omega arith
open-small opening.BadCapacity = omega arith
open-small opening.NoMemory = omega arith

-- ---- a run

run-small : (run : RunResult) → run_status run ≤ 5
run-small (Ok Lawful) = omega arith
run-small (Ok Unlawful) = omega arith
run-small (Ok Incomplete) = omega arith
run-small (Err (fault.File f)) = omega (arith, file-small f)
run-small (Err (fault.Open f)) = omega (arith, open-small f)
run-small (Err fault.NoMemory) = omega arith
run-small (Err fault.NotClosed) = omega arith
run-small (Err fault.WriteFailed) = omega arith

one-or-two : {X : Type 0} {n : ℕ} (status : ℕ) → (status ≡ 2) ⊎ ((status ≡ 1) × X) → status ≡ n → (n ≡ 2) ⊎ (n ≡ 1)
one-or-two status (inl e) s = inl (sym s ∙ e)
one-or-two status (inr e) s = inr (sym s ∙ e.0)

run-quiet : (job : Job) (ends : Ends) (run : RunResult) → IsRunOf job ends run
    → (run_status run ≡ 2) ⊎ (run_status run ≡ 1) → ends.new ≡ ends.old
run-quiet job ends (Ok Lawful) h (inl e) = absurd (omega (arith, e))
run-quiet job ends (Ok Lawful) h (inr e) = absurd (omega (arith, e))
run-quiet job ends (Ok Unlawful) h (inl e) = absurd (omega (arith, e))
run-quiet job ends (Ok Unlawful) h (inr e) = absurd (omega (arith, e))
run-quiet job ends (Ok Incomplete) h (inl e) = absurd (omega (arith, e))
run-quiet job ends (Ok Incomplete) h (inr e) = absurd (omega (arith, e))
run-quiet job ends (Err (fault.File f)) h e = h.quiet
run-quiet job ends (Err (fault.Open f)) h e = h.quiet
run-quiet job ends (Err fault.NoMemory) h e = h.quiet
run-quiet job ends (Err fault.NotClosed) h e = h.quiet
run-quiet job ends (Err fault.WriteFailed) h (inl e) = absurd (omega (arith, e))
run-quiet job ends (Err fault.WriteFailed) h (inr e) = absurd (omega (arith, e))

-- ---- a session

session-small : (ended : SessionResult) → session_status ended ≤ 4
session-small (Ok AllGood) = omega arith
session-small (Ok SomeBad) = omega arith
session-small (Err (session.Open f)) = open-small f
session-small (Err (session.Live f)) = omega arith

session-quiet : (day : DayHeader) (reserve : ℕ) (ends : Ends) (ended : SessionResult) → RunsLive day reserve ends ended
    → session_status ended ≡ 2 → ends.new ≡ ends.old
session-quiet day reserve ends (Ok AllGood) h e = absurd (omega (arith, e))
session-quiet day reserve ends (Ok SomeBad) h e = absurd (omega (arith, e))
session-quiet day reserve ends (Err (session.Open f)) h e = h.new
session-quiet day reserve ends (Err (session.Live f)) h e = absurd (omega (arith, e))

session-read : (day : DayHeader) (reserve : ℕ) (ends : Ends) (ended : SessionResult) → RunsLive day reserve ends ended
    → ends.ReadFailed → session_status ended ≡ 3
session-read day reserve ends (Ok ending) (opens, ran) f =
    let same = ran.session.reads in let more = ran.read_failed.0 f in absurd (omega (arith, same, more))
session-read day reserve ends (Err (session.Open x)) h f = absurd (h.none_read f)
session-read day reserve ends (Err (session.Live x)) h f = refl

session-write : (day : DayHeader) (reserve : ℕ) (ends : Ends) (ended : SessionResult) → RunsLive day reserve ends ended
    → ends.WriteFailed → session_status ended ≡ 3
session-write day reserve ends (Ok ending) (opens, ran) f =
    let same = ran.session.answered.writes in let more = ran.write_failed.0 f in absurd (omega (arith, same, more))
session-write day reserve ends (Err (session.Open x)) h f = absurd (h.none_written f)
session-write day reserve ends (Err (session.Live x)) h f = refl

-- ---- each task

as-task : (asked : Option Task) (task : Task) (status : ℕ) → asked ≡ Some task
    → (status ≡ 2) ⊎ ((status ≡ 1) × (is_session asked ≡ false))
    → (status ≡ 2) ⊎ ((status ≡ 1) × (is_session (Some task) ≡ false))
as-task asked task status is (inl e) = inl e
as-task asked task status is (inr e) = inr (e.0, sym (ap is_session is) ∙ e.1)

does-quiet : {D : Type 0} (files : JournalFiles D) (day : DayHeader) (journal : Option JournalFile) (task : Task)
    (ends : Ends) (status : ℕ)
    → DoesTask files day journal task ends status → (status ≡ 2) ⊎ ((status ≡ 1) × (is_session (Some task) ≡ false))
    → ends.new ≡ ends.old
does-quiet files day journal (Run form) ends status h q =
    run-quiet (auction_job day form) ends h.0 h.1 (one-or-two status q h.2)
does-quiet files day journal (Floor form) ends status h q =
    run-quiet (board_job day form) ends h.0 h.1 (one-or-two status q h.2)
does-quiet files day journal (Audit results) ends status h q =
    run-quiet (audit_job results) ends h.0 h.1 (one-or-two status q h.2)
does-quiet files day None (Live reserve) ends status h (inl e) = session-quiet day reserve ends h.0 h.1 (sym h.2 ∙ e)
does-quiet files day None (Live reserve) ends status h (inr e) = absurd (cc (e.1))
does-quiet files day (Some file) (Live reserve) ends status h (inl e) = h.quiet e
does-quiet files day (Some file) (Live reserve) ends status h (inr e) = absurd (cc (e.1))

does-read : {D : Type 0} (files : JournalFiles D) (day : DayHeader) (journal : Option JournalFile) (task : Task)
    (ends : Ends) (status : ℕ)
    → DoesTask files day journal task ends status → ends.ReadFailed → status ≡ 3
does-read files day journal (Run form) ends status h f = h.2 ∙ ap run_status (h.1.read_failed.1 f)
does-read files day journal (Floor form) ends status h f = h.2 ∙ ap run_status (h.1.read_failed.1 f)
does-read files day journal (Audit results) ends status h f = h.2 ∙ ap run_status (h.1.read_failed.1 f)
does-read files day None (Live reserve) ends status h f = h.2 ∙ session-read day reserve ends h.0 h.1 f
does-read files day (Some file) (Live reserve) ends status h f = h.read_failed f

does-write : {D : Type 0} (files : JournalFiles D) (day : DayHeader) (journal : Option JournalFile) (task : Task)
    (ends : Ends) (status : ℕ)
    → DoesTask files day journal task ends status → ends.WriteFailed → status ≡ 3
does-write files day journal (Run form) ends status h f = h.2 ∙ ap run_status (h.1.write_failed.1 f)
does-write files day journal (Floor form) ends status h f = h.2 ∙ ap run_status (h.1.write_failed.1 f)
does-write files day journal (Audit results) ends status h f = h.2 ∙ ap run_status (h.1.write_failed.1 f)
does-write files day None (Live reserve) ends status h f = h.2 ∙ session-write day reserve ends h.0 h.1 f
does-write files day (Some file) (Live reserve) ends status h f = h.write_failed f

does-small : {D : Type 0} (files : JournalFiles D) (day : DayHeader) (journal : Option JournalFile) (task : Task)
    (ends : Ends) (status : ℕ)
    → DoesTask files day journal task ends status → status ≤ 5
does-small files day journal (Run form) ends status h = rw h.2 (run-small h.0)
does-small files day journal (Floor form) ends status h = rw h.2 (run-small h.0)
does-small files day journal (Audit results) ends status h = rw h.2 (run-small h.0)
does-small files day None (Live reserve) ends status h = rw h.2 (omega (arith, session-small h.0))
does-small files day (Some file) (Live reserve) ends status h = omega (arith, h.small)

-- a session with a journal
pub does-journaled : {D : Type 0} (files : JournalFiles D) (day : DayHeader) (journal : Option JournalFile)
    (file : JournalFile) (reserve : ℕ) (ends : Ends) (status : ℕ) → journal ≡ Some file
    → RunsJournaledSession files file day reserve ends status → DoesTask files day journal (Live reserve) ends status
does-journaled files day journal file reserve ends status is h = rw is h

-- ---- the arguments

-- settings that were served
pub serves-settings : {D : Type 0} (files : JournalFiles D) (arguments : List Text) (s : Settings) (task : Task)
    (ends : Ends) (status : ℕ)
    → AcceptsArguments arguments s → IsInRange s → s.task ≡ task
    → DoesTask files (day_of_settings s) s.journal task ends status
    → ServesArguments files arguments ends status
serves-settings files arguments s task ends status accepts ranges is h =
    let does : ServesSettings files s ends status =
    subst (λ (t : Task). DoesTask files (day_of_settings s) s.journal t ends status) (sym is) h in
    record {
      answer = inl (s, accepts, ranges, does);
      quiet = λ q. does-quiet files (day_of_settings s) s.journal s.task ends status does
          (as-task _ s.task status accepts.1.task q);
      read_failed = does-read files (day_of_settings s) s.journal s.task ends status does;
      write_failed = does-write files (day_of_settings s) s.journal s.task ends status does;
      few = does-small files (day_of_settings s) s.journal s.task ends status does;
    }

-- a status that isn't that of help
not-help : {K W : Type 0} (n status : ℕ) → (status ≡ n) ⊎ W → (W → status ≡ 3) → (n ≢ 0 → K)
    → (status ≡ 2) ⊎ (status ≡ 1) → K
not-help n status (inl is) fails quiet (inl e) = quiet (λ z. omega (arith, is, e, z))
not-help n status (inl is) fails quiet (inr e) = quiet (λ z. omega (arith, is, e, z))
not-help n status (inr f) fails quiet (inl e) = let late = fails f in absurd (omega (arith, late, e))
not-help n status (inr f) fails quiet (inr e) = let late = fails f in absurd (omega (arith, late, e))

arguments-small : (kind : ErrorKind) → arguments_status kind ≤ 5
arguments-small kinds.InvalidValue = omega arith
arguments-small kinds.UnknownArgument = omega arith
arguments-small kinds.InvalidSubcommand = omega arith
arguments-small kinds.NoEquals = omega arith
arguments-small kinds.ValueValidation = omega arith
arguments-small kinds.TooManyValues = omega arith
arguments-small kinds.TooFewValues = omega arith
arguments-small kinds.WrongNumberOfValues = omega arith
arguments-small kinds.ArgumentConflict = omega arith
arguments-small kinds.MissingRequiredArgument = omega arith
arguments-small kinds.MissingSubcommand = omega arith
arguments-small kinds.DisplayHelp = omega arith
arguments-small kinds.DisplayHelpOnMissingArgumentOrSubcommand = omega arith
arguments-small kinds.DisplayVersion = omega arith
arguments-small kinds.Io = omega arith
arguments-small kinds.Format = omega arith
arguments-small kinds.OutOfMemory = omega arith

few-of-arguments : {W : Type 0} (kind : ErrorKind) (status : ℕ) → (status ≡ arguments_status kind) ⊎ W → (W
    → status ≡ 3)
    → status ≤ 5
few-of-arguments kind status (inl is) fails = rw is (arguments-small kind)
few-of-arguments kind status (inr f) fails = let late = fails f in omega (arith, late)

-- arguments that say none
pub serves-arguments : {D : Type 0} (files : JournalFiles D) (arguments : List Text) (ends : Ends) (status : ℕ)
    → AnswersFault arguments ends status
    → ServesArguments files arguments ends status
serves-arguments files arguments ends status (inl h) = record {
  answer = inr (inl h);
  quiet = λ q. not-help (arguments_status h.kind) status h.status_is h.write_failed h.quiet (one-or-two status q refl);
  read_failed = λ f. absurd (h.none_read f);
  write_failed = h.write_failed;
  few = few-of-arguments h.kind status h.status_is h.write_failed;
}
serves-arguments files arguments ends status (inr h) = record {
  answer = inr (inr h);
  quiet = λ q. h.quiet;
  read_failed = λ f. absurd (h.none_read f);
  write_failed = λ f. absurd (h.none_written f);
  few = let two = h.status_is in omega (arith, two);
}
