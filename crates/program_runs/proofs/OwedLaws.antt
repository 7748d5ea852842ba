-- What a run owes, by how far it came.
use Rattle.std.proofs.Common.{◌≡◌, ℕ, ◌++◌, List, Option, None, Some, Result, Ok, Err, IfSome, ap, refl, sym, subst}
use Rattle.std.specs.Prelude.{◌↔◌, IsErrAnd, IsErrOf, unwrap_or}
use Rattle.std.specs.Io.KnownBytes.{Appends}
use Rattle.auction.specs.declared.OpenFault.{OpenFault}
use Rattle.auction.specs.declared.OpenFault.TheVariants.{NoMemory}
use Rattle.order_file.specs.File.{FailsAsWanted}
use Rattle.order_file.specs.declared.fault.FileFault.{FileFault}
use Rattle.order_file.specs.declared.fault.FileFault.TheVariants as file
use Rattle.journal.specs.DayWithCalls.{DayWithCalls}
use Rattle.board_terms.specs.declared.closing.Closing.{Closing}
use Rattle.printed_lines.specs.Tally.{history_lines, tally}
use Rattle.settings.specs.declared.types.FloorForm.{FloorForm}
use Rattle.settings.specs.declared.types.FloorForm.TheVariants as floor
use Rattle.program_runs.specs.declared.fault.Fault.{Fault}
use Rattle.program_runs.specs.declared.fault.Fault.TheVariants as fault
use Rattle.program_runs.specs.declared.fault.Finish.{Finish}
use Rattle.program_runs.specs.BoardRun.{IsDayOf, IsFloorText, IsWideFloor, closed_text}
use Rattle.program_runs.specs.FileRun.{Ends, Job, OpensUnless, IsRunOf, IsWithoutBoard, WritesText, WritesByInput}
use Rattle.program_runs.specs.PlayedDay.{IsOfOpeningOrDay}
use Rattle.program_runs.specs.Printed.{IsOfListing}
use Rattle.program_runs.specs.Status.{RunResult}

-- ---- what a `?` hands on, and what didn't fail

pub handed_over : (job : Job) (ends : Ends) (run : RunResult) (f : Fault) → IsErrAnd run (λ x. x ≡ f)
    → IsRunOf job ends (Err f) → IsRunOf job ends run
handed_over job ends (Ok finish) f is owes = absurd is
handed_over job ends (Err e) f is owes = subst (λ (x : Fault). IsRunOf job ends (Err x)) (sym is) owes

pub read_well : {X F : Type 0} (r : Result X FileFault) (x : X) → r ≡ Ok x → (IsErrOf r file.ReadFailed ↔ F) → F → ⊥
read_well r x is told h = let late : r ≡ Err file.ReadFailed = told.1 h in absurd cc

pub wrote_well : {F : Type 0} (r : Result (Unit {0}) Fault) (u : Unit {0}) → r ≡ Ok u
    → (IsErrOf r fault.WriteFailed ↔ F) → F → ⊥
wrote_well r u is told h = let late : r ≡ Err fault.WriteFailed = told.1 h in absurd cc

-- ---- a fault of the input

-- what the input says is what was given
abbrev IsSaidByInput : (job : Job) → Ends → job.Given → Type 0
IsSaidByInput job ends run_input = IfSome ends.left (λ bytes. job.says bytes ≡ Ok run_input)

known : (left : Option (List ℕ)) (job : Job) (ends : Ends) (run_input : job.Given) (run : RunResult)
    → IfSome left (λ bytes. job.says bytes ≡ Ok run_input)
    → WritesByInput job ends (Ok run_input) run → IfSome left (λ bytes. WritesByInput job ends (job.says bytes) run)
known None job ends run_input run hears wrote = tt
known (Some bytes) job ends run_input run hears wrote =
    subst (λ said. WritesByInput job ends said run) (sym hears) wrote

pub refused_input : {X : Type 0} (job : Job) (ends : Ends) (r : Result X FileFault) (f : FileFault) → r ≡ Err f
    → (IsErrOf r file.ReadFailed ↔ ends.ReadFailed)
    → (ends.WriteFailed → ⊥) → ends.new ≡ ends.old → job.Faults (fault.File f)
    → IfSome ends.left (λ bytes. FailsAsWanted f (job.says bytes)) → IsRunOf job ends (Err (fault.File f))
refused_input {X} job ends r f is told wrote_well quiet faults fails = record {
  read_failed = (λ e. told.0 (read e), λ h. failed (told.1 h));
  write_failed = (λ e. absurd (cc (e)), λ h. absurd (wrote_well h));
  wrote = fails;
  quiet = quiet;
  fault = faults;
}
  where
    read : IsErrOf {T = Finish} (Err (fault.File f)) (fault.File file.ReadFailed) → r ≡ Err file.ReadFailed
    read e = let same : f ≡ file.ReadFailed = cc (e) in cc

    failed : r ≡ Err file.ReadFailed → IsErrOf {T = Finish} (Err (fault.File f)) (fault.File file.ReadFailed)
    failed e = let same : f ≡ file.ReadFailed = cc (e) in ap (λ (x : FileFault). Err (fault.File x)) same

-- ---- a fault before anything was written

pub refused_opening : (job : Job) (ends : Ends) (run_input : job.Given) (f : OpenFault)
    → IsSaidByInput job ends run_input
    → (ends.ReadFailed → ⊥) → (ends.WriteFailed → ⊥) → ends.new ≡ ends.old
    → job.Faults (fault.Open f) → f ≡ unwrap_or (job.opening run_input) NoMemory → IsRunOf job ends (Err (fault.Open f))
refused_opening job ends run_input f hears read_well wrote_well quiet faults opens = record {
  read_failed = (λ e. absurd (cc (e)), λ h. absurd (read_well h));
  write_failed = (λ e. absurd (cc (e)), λ h. absurd (wrote_well h));
  wrote = known ends.left job ends run_input (Err (fault.Open f)) hears (opens, tt);
  quiet = quiet;
  fault = faults;
}

pub ended_between : (X : Type 0) (job : Job) (ends : Ends) (run_input : job.Given) (f : Fault)
    → IsSaidByInput job ends run_input → (ends.ReadFailed → ⊥) → (ends.WriteFailed → ⊥) → ends.new ≡ ends.old
    → job.Faults f → IsOfOpeningOrDay f → OpensUnless {X = X} (job.opening run_input) (Err f) → IsRunOf job ends (Err f)
ended_between X job ends run_input (fault.File f) hears read_well wrote_well quiet faults between opens = absurd between
ended_between X job ends run_input (fault.Open f) hears read_well wrote_well quiet faults between opens =
    refused_opening job ends run_input f hears read_well wrote_well quiet faults opens
ended_between X job ends run_input fault.NoMemory hears read_well wrote_well quiet faults between opens = record {
  read_failed = (λ e. absurd (cc (e)), λ h. absurd (read_well h));
  write_failed = (λ e. absurd (cc (e)), λ h. absurd (wrote_well h));
  wrote = known ends.left job ends run_input (Err fault.NoMemory) hears (opens, tt);
  quiet = quiet;
  fault = faults;
}
ended_between X job ends run_input fault.NotClosed hears read_well wrote_well quiet faults between opens = record {
  read_failed = (λ e. absurd (cc (e)), λ h. absurd (read_well h));
  write_failed = (λ e. absurd (cc (e)), λ h. absurd (wrote_well h));
  wrote = known ends.left job ends run_input (Err fault.NotClosed) hears (opens, tt);
  quiet = quiet;
  fault = faults;
}
ended_between X job ends run_input fault.WriteFailed hears read_well wrote_well quiet faults between opens =
    absurd between

-- ---- what was written

pub ran_whole : (job : Job) (ends : Ends) (run_input : job.Given) (finish : Finish) (text : List ℕ)
    → IsSaidByInput job ends run_input → (ends.ReadFailed → ⊥) → (ends.WriteFailed → ⊥)
    → job.opening run_input ≡ None → job.Text run_input finish text → Appends ends.old ends.new text
    → IsRunOf job ends (Ok finish)
ran_whole job ends run_input finish text hears read_well wrote_well opens is wrote = record {
  read_failed = (λ e. absurd (cc (e)), λ h. absurd (read_well h));
  write_failed = (λ e. absurd (cc (e)), λ h. absurd (wrote_well h));
  wrote = known ends.left job ends run_input (Ok finish) hears (opens, (text, is, wrote));
  quiet = tt;
  fault = tt;
}

pub ran_short : (job : Job) (ends : Ends) (run_input : job.Given) (finish : Finish) (text : List ℕ)
    (r : Result (Unit {0}) Fault) (f : Fault) → r ≡ Err f → IsSaidByInput job ends run_input
    → (ends.ReadFailed → ⊥) → (IsErrOf r fault.WriteFailed ↔ ends.WriteFailed) → job.opening run_input ≡ None
    → job.Faults f → IsOfListing f → (f ≡ fault.WriteFailed → job.Text run_input finish text)
    → WritesText ends.old ends.new text (Err f) → IsRunOf job ends (Err f)
ran_short job ends run_input finish text r fault.NoMemory same hears read_well told opens faults after is wrote =
    record {
      read_failed = (λ e. absurd (cc (e)), λ h. absurd (read_well h));
      write_failed = (λ e. absurd (cc (e)), λ h. let late : r ≡ Err fault.WriteFailed = told.1 h in absurd cc);
      wrote = known ends.left job ends run_input (Err fault.NoMemory) hears (opens, tt);
      quiet = wrote;
      fault = faults;
    }
ran_short job ends run_input finish text r fault.WriteFailed same hears read_well told opens faults after is wrote =
    record {
      read_failed = (λ e. absurd (cc (e)), λ h. absurd (read_well h));
      write_failed = (λ e. told.0 same, λ h. refl);
      wrote = known ends.left job ends run_input (Err fault.WriteFailed) hears (opens, (finish, text, is refl, wrote));
      quiet = tt;
      fault = faults;
    }
ran_short job ends run_input finish text r (fault.File f) same hears read_well told opens faults after is wrote =
    absurd after
ran_short job ends run_input finish text r (fault.Open f) same hears read_well told opens faults after is wrote =
    absurd after
ran_short job ends run_input finish text r fault.NotClosed same hears read_well told opens faults after is wrote =
    absurd after

-- a failed write
pub write-failed : (f : Fault) → f ≡ fault.WriteFailed → IsWithoutBoard f × IsOfListing f
write-failed f is = (subst IsWithoutBoard (sym is) tt, subst IsOfListing (sym is) tt)

-- what is printed of a closed day is a text of the calls that were given
pub is_text : (form : FloorForm) (run_input : DayWithCalls) (closing : Closing)
    → IsDayOf run_input.day.config run_input.day.members run_input.calls closing
    → IsWideFloor form closing.history.items → IsFloorText form run_input (closed_text form run_input.day closing)
is_text floor.Tally run_input closing day wide =
    (closing.history.items, day.history, (λ i. tally (day.entries i) (day.counts i) None), wide)
is_text floor.History run_input closing day wide = (
  closing.history.items,
  day.history,
  (λ i. tally (day.entries i) (day.counts i) None ++ history_lines closing.history.items),
  wide,
)
is_text (floor.Listing listing) run_input closing day wide = (closing.history.items, day.history, refl, wide)
