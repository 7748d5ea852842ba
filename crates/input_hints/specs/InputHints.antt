-- The likely cause of an input's fault, by how the input begins.
use Rattle.std.specs.Prelude.{ℕ, zero, suc, ◌-◌, ◌==◌, ◌&&◌, not, Bool, false, List, [], ◌∷◌, Option, Some, None}
use Rattle.std.specs.Prelude.{length, if◌then◌else◌, is_some, nat_lt, option_and_then}
use Rattle.csv.specs.Reading.{default_config, records, strip_bom}
use Rattle.order_file.specs.Field.{number_of}
use Rattle.order_file.specs.declared.fault.FileFault.{FileFault}
use Rattle.order_file.specs.declared.fault.FileFault.TheVariants as file
use Rattle.order_file.specs.declared.fault.RecordFault.{RecordFault}
use Rattle.order_file.specs.declared.fault.RecordFault.TheVariants as fault
use Rattle.input_hints.specs.RecordHints.{field_of, form_hint, hint_of_record, is_of_day}
use Rattle.input_hints.specs.declared.hint.Hint.{Hint}
use Rattle.input_hints.specs.declared.record.DayTerms.{DayTerms}
use Rattle.input_hints.specs.declared.start.TheConstants.{ROOM}

abbrev pub rows_of : List ℕ → List (List (List ℕ))
rows_of text = records default_config (strip_bom text)

-- the record after the first `before`
abbrev pub row_in : ℕ → List (List (List ℕ)) → Option (List (List ℕ))
row_in before [] = None
row_in zero (row ∷ rows) = Some row
row_in (suc before) (row ∷ rows) = row_in before rows

-- the start has all that is kept of one, so that more of the input may follow
abbrev pub may_go_on : List ℕ → Bool
may_go_on start = length start == ROOM

-- the record with a number, from 1, if it is whole: where more may follow, another one has to come after it
abbrev pub whole_row : ℕ → List ℕ → Option (List (List ℕ))
whole_row number start =
    if may_go_on start && not (is_some (row_in number (rows_of start))) then None
    else row_in (number - 1) (rows_of start)

abbrev pub small : ℕ → Option ℕ
small number = if nat_lt number 256 then Some number else None

abbrev pub terms_or : Option ℕ → Option ℕ → Option ℕ → DayTerms → DayTerms
terms_or None high members others = others
terms_or (Some low) None members others = others
terms_or (Some low) (Some high) None others = others
terms_or (Some low) (Some high) (Some members) others = record { members = members; low = low; high = high }

-- the terms of the day that a journal's first record says, or the others
abbrev pub terms_in : List (List ℕ) → DayTerms → DayTerms
terms_in first others =
    if is_of_day first
    then terms_or (number_of (field_of 1 first)) (number_of (field_of 2 first))
    (option_and_then small (number_of (field_of 4 first))) others
    else others

-- the field at fault is the reply that a record of a journal ends with
abbrev pub is_reply : List (List ℕ) → ℕ → List (List ℕ) → RecordFault → Bool
is_reply first number row fault.BadMember = false
is_reply first number row fault.BadCommand = false
is_reply first number row fault.BadCount = false
is_reply first number row (fault.BadField field) = is_of_day first && nat_lt 1 number && (field == length row)

abbrev pub hint_of_rows : RecordFault → ℕ → Option (List (List ℕ)) → Option (List (List ℕ)) → DayTerms → Option Hint
hint_of_rows fault number None row terms = None
hint_of_rows fault number (Some first) None terms = None
hint_of_rows fault number (Some first) (Some row) terms =
    if is_reply first number row fault then None else hint_of_record fault number row (terms_in first terms)

-- the record with this number has this fault
abbrev pub hint_of_row : RecordFault → ℕ → List ℕ → DayTerms → Option Hint
hint_of_row fault number start terms =
    hint_of_rows fault number (row_in 0 (rows_of start)) (whole_row number start) terms

abbrev pub form_of_row : Option (List (List ℕ)) → Option Hint
form_of_row None = None
form_of_row (Some row) = form_hint 1 row

unfoldable pub hint_in : FileFault → List ℕ → DayTerms → Option Hint
hint_in (file.BadMember number) start terms = hint_of_row fault.BadMember number start terms
hint_in (file.BadCommand number) start terms = hint_of_row fault.BadCommand number start terms
hint_in (file.BadField number field) start terms = hint_of_row (fault.BadField field) number start terms
hint_in file.NotADay start terms = form_of_row (whole_row 1 start)
hint_in (file.BadCount number) start terms = None
hint_in (file.TooManyCommands number) start terms = None
hint_in file.TooLong start terms = None
hint_in file.ReadFailed start terms = None
hint_in file.NoMemory start terms = None
