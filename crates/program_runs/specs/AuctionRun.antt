-- What a run of commands on an auction writes.
use Rattle.std.specs.Prelude.{◌≡◌, ℕ, List}
use Rattle.auction.specs.ConfigFault.{open_fault}
use Rattle.journal.specs.DayWithCalls.{DayWithCalls, run_input}
use Rattle.journal.specs.declared.day.DayHeader.{DayHeader}
use Rattle.settings.specs.declared.types.Form.{Form}
use Rattle.program_runs.specs.declared.fault.Finish.TheVariants.{Lawful}
use Rattle.program_runs.specs.FileRun.{Ends, Job, IsRunOf, IsWithoutBoard}
use Rattle.program_runs.specs.Printed.{IsWideForm, history_of, printed}
use Rattle.program_runs.specs.Status.{RunResult}

-- what is printed of a day on which these calls come
abbrev pub run_text : Form → DayWithCalls → List ℕ
run_text form run_input = printed form run_input.day (history_of run_input.day.config run_input.calls)

-- the text of the calls that were given
abbrev pub IsRunText : Form → DayWithCalls → List ℕ → Type 0
IsRunText form run_input text =
    (text ≡ run_text form run_input) × IsWideForm form (history_of run_input.day.config run_input.calls)

-- the commands of an input, applied to an auction one after the other; it is of this day where it says no other
abbrev pub auction_job : DayHeader → Form → Job
auction_job day form = record {
  Given = DayWithCalls;
  says = run_input day;
  opening = λ run_input. open_fault run_input.day.config;
  Text = λ run_input finish text. (finish ≡ Lawful) × IsRunText form run_input text;
  Faults = IsWithoutBoard;
}

abbrev pub RunsOnAuction : DayHeader → Form → Ends → RunResult → Type 0
RunsOnAuction day form = IsRunOf (auction_job day form)
