-- What a run of commands on a board writes.
use Rattle.std.specs.Prelude.{◌≡◌, ℕ, ◌++◌, ◌==◌, List, All, filter, length, map, Option, None, MatchOption}
use Rattle.std.specs.List.{range_with_len}
use Rattle.auction_terms.specs.declared.Call.{Call}
use Rattle.auction_terms.specs.declared.Command.{Command}
use Rattle.auction_terms.specs.declared.Config.{Config}
use Rattle.auction_terms.specs.declared.Entry.{Entry}
use Rattle.auction_terms.specs.Day.{IsLegal, calls_of}
use Rattle.auction.specs.Audits.{IsFirstBad}
use Rattle.board_terms.specs.BoardOpening.{board_fault}
use Rattle.board_terms.specs.declared.closing.Closing.{Closing}
use Rattle.member_board.specs.declared.script.Script.{Script}
use Rattle.journal.specs.DayWithCalls.{DayWithCalls, run_input}
use Rattle.journal.specs.declared.day.DayHeader.{DayHeader}
use Rattle.printed_lines.specs.Tally.{history_lines, tally}
use Rattle.settings.specs.declared.types.FloorForm.{FloorForm}
use Rattle.settings.specs.declared.types.FloorForm.TheVariants as floor
use Rattle.program_runs.specs.declared.fault.Finish.TheVariants.{Lawful}
use Rattle.program_runs.specs.declared.printing.ClosingForm.{ClosingForm}
use Rattle.program_runs.specs.declared.printing.ClosingForm.TheVariants as closings
use Rattle.program_runs.specs.FileRun.{Ends, Job, IsRunOf}
use Rattle.program_runs.specs.Printed.{IsWideListing, listing_text}
use Rattle.program_runs.specs.Status.{RunResult}

-- the commands of one member among these calls, in their order
abbrev pub commands_of : ℕ → List Call → List Command
commands_of member calls = map (λ (call : Call). call.command) (filter (λ (call : Call). call.member == member) calls)

-- how many of these calls are each member's, from member 0 on
abbrev pub calls_of_members : ℕ → List Call → List ℕ
calls_of_members members calls = map (λ member. length (commands_of member calls)) (range_with_len 0 members)

-- a script for each member, by rising numbers, with its commands among these calls
pub record IsSplit (members : ℕ) (calls : List Call) (scripts : List Script) : Type 0 where
  pub numbers : map (λ (s : Script). s.member) scripts ≡ range_with_len 0 members
  pub commands : All (λ (s : Script). s.commands.items ≡ commands_of s.member calls) scripts

-- a legal history of these calls, in which each member's come in their order
pub record IsHistoryOf (config : Config) (calls : List Call) (entries : List Entry) : Type 0 where
  pub legal : IsLegal config entries
  pub commands : (member : ℕ) → commands_of member (calls_of entries) ≡ commands_of member calls

-- the closing of a day of these calls
pub record IsDayOf (config : Config) (members : ℕ) (calls : List Call) (closing : Closing) : Type 0 where
  pub history : IsHistoryOf config calls closing.history.items
  pub entries : length closing.history.items ≡ length calls
  pub counts : closing.calls.items ≡ calls_of_members members calls

-- what the audit found in a history: the place of the first entry that breaks the rules, if there is one
abbrev pub IsAuditFinding : Config → List Entry → Option ℕ → Type 0
IsAuditFinding config entries place = MatchOption place (IsLegal config entries) (IsFirstBad config entries)

-- how many entries there are, how many calls of each member, and what the audit found
abbrev pub closing_tally : Closing → Option ℕ → List ℕ
closing_tally closing first_bad = tally (length closing.history.items) closing.calls.items first_bad

-- the tally of a closed day, which the history may follow
abbrev pub closing_text : ClosingForm → Closing → Option ℕ → List ℕ
closing_text closings.Tally closing first_bad = closing_tally closing first_bad
closing_text closings.History closing first_bad =
    closing_tally closing first_bad ++ history_lines closing.history.items

-- of a closed day of a legal history, or a listing of it in place of that
abbrev pub closed_text : FloorForm → DayHeader → Closing → List ℕ
closed_text floor.Tally day closing = closing_text closings.Tally closing None
closed_text floor.History day closing = closing_text closings.History closing None
closed_text (floor.Listing listing) day closing = listing_text listing day closing.history.items

-- how many calls there are, how many of each member, and that the history is legal
abbrev pub day_tally : DayWithCalls → List ℕ
day_tally run_input = tally (length run_input.calls) (calls_of_members run_input.day.members run_input.calls) None

-- the tally of a day of a legal history, which the history may follow; or in place of all that a listing of the day
abbrev pub floor_text : FloorForm → DayWithCalls → List Entry → List ℕ
floor_text floor.Tally run_input entries = day_tally run_input
floor_text floor.History run_input entries = day_tally run_input ++ history_lines entries
floor_text (floor.Listing listing) run_input entries = listing_text listing run_input.day entries

-- in a journal each number of a reply is below 2 ^ 64
abbrev pub IsWideFloor : FloorForm → List Entry → Type 0
IsWideFloor floor.Tally entries = Unit {0}
IsWideFloor floor.History entries = Unit {0}
IsWideFloor (floor.Listing listing) entries = IsWideListing listing entries

-- the text of these calls and of a legal history of them
abbrev pub IsFloorText : FloorForm → DayWithCalls → List ℕ → Type 0
IsFloorText form run_input text =
    (entries : List Entry) × IsHistoryOf run_input.day.config run_input.calls entries
    × (text ≡ floor_text form run_input entries) × IsWideFloor form entries

-- the commands of an input, called on a board by its members at once; it is of this day where it says no other
abbrev pub board_job : DayHeader → FloorForm → Job
board_job day form = record {
  Given = DayWithCalls;
  says = run_input day;
  opening = λ run_input. board_fault run_input.day.config run_input.day.members;
  Text = λ run_input finish text. (finish ≡ Lawful) × IsFloorText form run_input text;
  Faults = λ f. Unit {0};
}

abbrev pub RunsOnBoard : DayHeader → FloorForm → Ends → RunResult → Type 0
RunsOnBoard day form = IsRunOf (board_job day form)
