-- What a session answers to the records that come.
use Rattle.std.specs.Prelude.{ℕ, ◌+◌, List, [], ◌∷◌, ◌++◌, nat_le, Bool, if◌then◌else◌}
use Rattle.std.specs.Prelude.{Option, Some, None, Result, Ok, Err, true, false}
use Rattle.auction_terms.specs.declared.Call.{Call}
use Rattle.auction_terms.specs.declared.Entry.{Entry}
use Rattle.auction_terms.specs.Day.{step}
use Rattle.auction_terms.specs.Auxiliary.RunningAuction.{RunningAuction, auction_after_call, entry_in}
use Rattle.csv.specs.Reading.{default_config, records}
use Rattle.order_file.specs.Record.{call_of_record}
use Rattle.order_file.specs.declared.fault.RecordFault.{RecordFault}
use Rattle.printed_lines.specs.ReplyLines.{line}
use Rattle.input_hints.specs.RecordHints.{hint_of_record}
use Rattle.input_hints.specs.declared.hint.Hint.{Hint}
use Rattle.input_hints.specs.declared.record.DayTerms.{DayTerms}
use Rattle.auction.specs.Reserve.{is_reserved_from}
use Rattle.auction_views.specs.View.{is_view, view_of}
use Rattle.auction_views.specs.ViewText.{view_text}
use Rattle.auction_views.specs.declared.view.View.{View}
use Rattle.live_session.specs.BadRecords.{bad_record_line}
use Rattle.live_session.specs.InputLines.{Lines, is_quote_open, is_too_long, lines_of, text_of_record}
use Rattle.live_session.specs.declared.fault.BadRecord.{BadRecord}
use Rattle.live_session.specs.declared.fault.BadRecord.TheVariants as bad
use Rattle.live_session.specs.declared.fault.Ending.{Ending}
use Rattle.live_session.specs.declared.fault.Ending.TheVariants.{AllGood, SomeBad}
use Rattle.live_session.specs.declared.terms.SessionTerms.{SessionTerms}

-- The auction after the records so far, how many they were, their answers, a line each, the entries of those that were
-- calls, and the faults of the others.
pub record Answered : Type 0 where
  pub auction : RunningAuction
  pub records : ℕ
  pub text : List ℕ
  pub entries : List Entry
  pub faults : List BadRecord

abbrev pub nothing_yet : RunningAuction → Answered
nothing_yet start = record { auction = start; records = 0; text = []; entries = []; faults = [] }

-- a member's call would take one of the last calls of the day, which are the operator's
abbrev pub is_reserved : SessionTerms → RunningAuction → Call → Bool
is_reserved terms auction call = is_reserved_from terms.reserve auction.config call.member auction.calls

abbrev pub unless_reserved : SessionTerms → RunningAuction → Result Call RecordFault → Result Call BadRecord
unless_reserved terms auction (Err fault) = Err (bad.Malformed fault)
unless_reserved terms auction (Ok call) = if is_reserved terms auction call then Err bad.Reserved else Ok call

-- The call of a record. It is at fault where the auction takes no further one, whatever the record holds.
unfoldable pub live_call : SessionTerms → RunningAuction → List (List ℕ) → Result Call BadRecord
live_call terms auction fields =
    if nat_le auction.config.max_calls auction.calls then Err bad.TooManyCommands
    else unless_reserved terms auction (call_of_record terms.members fields)

-- A good record is a call. Its line is the reply's, whose number is the call's place in the day.
abbrev pub replied : Answered → Call → Answered
replied so_far call = record {
  auction = auction_after_call so_far.auction call;
  records = so_far.records + 1;
  text = so_far.text ++ line (so_far.auction.calls + 1) (step so_far.auction.config so_far.auction.state call).1;
  entries = so_far.entries ++ entry_in so_far.auction call ∷ [];
  faults = so_far.faults;
}

-- A bad one runs nothing. Its line is its fault's, whose number is the record's place in the input, and has the fault's
-- likely cause, if there is one.
abbrev pub refused_with : Answered → BadRecord → Option Hint → Answered
refused_with so_far fault cause = record {
  auction = so_far.auction;
  records = so_far.records + 1;
  text = so_far.text ++ bad_record_line (so_far.records + 1) fault cause;
  entries = so_far.entries;
  faults = so_far.faults ++ fault ∷ [];
}

abbrev pub refused : Answered → BadRecord → Answered
refused so_far fault = refused_with so_far fault None

-- A view is answered by its text. It is no call, and changes nothing.
abbrev pub answered_by_view : Answered → View → Answered
answered_by_view so_far view = record {
  auction = so_far.auction;
  records = so_far.records + 1;
  text = so_far.text ++ view_text so_far.auction view;
  entries = so_far.entries;
  faults = so_far.faults;
}

abbrev pub answer_view : Answered → Result View RecordFault → Answered
answer_view so_far (Ok view) = answered_by_view so_far view
answer_view so_far (Err fault) = refused so_far (bad.Malformed fault)

abbrev pub day_terms : SessionTerms → RunningAuction → DayTerms
day_terms terms auction = record {
  members = terms.members;
  low = auction.config.low;
  high = auction.config.high;
}

-- the likely cause of the fault of the record with this number
abbrev pub cause_of : SessionTerms → RunningAuction → ℕ → List (List ℕ) → BadRecord → Option Hint
cause_of terms auction number fields (bad.Malformed fault) =
    hint_of_record fault number fields (day_terms terms auction)
cause_of terms auction number fields bad.TooLong = None
cause_of terms auction number fields bad.OpenQuote = None
cause_of terms auction number fields bad.CutOff = None
cause_of terms auction number fields bad.TooManyCommands = None
cause_of terms auction number fields bad.Reserved = None

abbrev pub refused_row : SessionTerms → Answered → List (List ℕ) → BadRecord → Answered
refused_row terms so_far fields fault =
    refused_with so_far fault (cause_of terms so_far.auction (so_far.records + 1) fields fault)

abbrev pub answer_call : SessionTerms → Answered → List (List ℕ) → Result Call BadRecord → Answered
answer_call terms so_far fields (Ok call) = replied so_far call
answer_call terms so_far fields (Err fault) = refused_row terms so_far fields fault

abbrev pub answer_by : SessionTerms → Answered → List (List ℕ) → Bool → Answered
answer_by terms so_far fields true = answer_view so_far (view_of terms.members fields)
answer_by terms so_far fields false = answer_call terms so_far fields (live_call terms so_far.auction fields)

-- after one more record: a view, or a call
abbrev pub after_record : SessionTerms → Answered → List (List ℕ) → Answered
after_record terms so_far fields = answer_by terms so_far fields (is_view fields)

-- after these records, in their order
unfoldable pub after_records : SessionTerms → Answered → List (List (List ℕ)) → Answered
after_records terms so_far [] = so_far
after_records terms so_far (r ∷ rs) = after_records terms (after_record terms so_far r) rs

-- ---- by lines

-- why a line isn't read as a record
abbrev pub line_fault : List ℕ → Option BadRecord
line_fault line =
    if is_too_long line then Some bad.TooLong else if is_quote_open line then Some bad.OpenQuote else None

abbrev pub after_line_by : SessionTerms → Answered → List ℕ → Option BadRecord → Answered
after_line_by terms so_far line (Some fault) = refused so_far fault
after_line_by terms so_far line None = after_records terms so_far (records default_config (text_of_record line))

-- After one more line: it is a record, or blank, and then passed over.
abbrev pub after_line : SessionTerms → Answered → List ℕ → Answered
after_line terms so_far line = after_line_by terms so_far line (line_fault line)

-- after these lines, in their order
unfoldable pub after_lines : SessionTerms → Answered → List (List ℕ) → Answered
after_lines terms so_far [] = so_far
after_lines terms so_far (l ∷ ls) = after_lines terms (after_line terms so_far l) ls

-- what a session answers, from this auction on, to the lines that have ended
abbrev pub answered_lines : SessionTerms → RunningAuction → Lines → Answered
answered_lines terms start lines = after_lines terms (nothing_yet start) lines.ended

-- the same, of the lines of what has come
abbrev pub answered : SessionTerms → RunningAuction → List ℕ → Answered
answered terms start heard = answered_lines terms start (lines_of heard)

-- A line that the input ends in was cut off: it isn't read as a record.
abbrev pub after_input_end : Answered → List ℕ → Answered
after_input_end so_far [] = so_far
after_input_end so_far (byte ∷ bytes) = refused so_far bad.CutOff

-- what it answers to an input that has ended
abbrev pub answered_whole : SessionTerms → RunningAuction → List ℕ → Answered
answered_whole terms start heard = after_input_end (answered terms start heard) (lines_of heard).at_hand

-- whether a record was bad
abbrev pub ending_of : List BadRecord → Ending
ending_of [] = AllGood
ending_of (fault ∷ faults) = SomeBad
