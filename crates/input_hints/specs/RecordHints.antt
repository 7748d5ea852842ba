-- The likely cause of a record's fault.
use Rattle.std.specs.Prelude.{ℕ, ◌-◌, ◌==◌, ◌||◌, ◌&&◌, not, Bool, List, [], ◌∷◌, Option, Some, None, codes, length}
use Rattle.std.specs.Prelude.{map, if◌then◌else◌, unwrap_or}
use Rattle.std.specs.Char.{to_ascii_lowercase}
use Rattle.std.specs.List.{list_all}
use Rattle.std.specs.Str.{bytes_eq}
use Rattle.csv.specs.Records.{field_at}
use Rattle.order_file.specs.declared.fault.RecordFault.{RecordFault}
use Rattle.order_file.specs.declared.fault.RecordFault.TheVariants as fault
use Rattle.input_hints.specs.FieldLooks.{has_blank_edge, has_byte, has_letter_first, is_command_word, is_decimal}
use Rattle.input_hints.specs.FieldLooks.{is_utf_16, is_whole}
use Rattle.input_hints.specs.declared.hint.Hint.{Hint}
use Rattle.input_hints.specs.declared.hint.Hint.TheVariants as hint
use Rattle.input_hints.specs.declared.record.DayTerms.{DayTerms}

-- the field at a place, from 0, or no byte where there is none
abbrev pub field_of : ℕ → List (List ℕ) → List ℕ
field_of place fields = unwrap_or (field_at fields place) []

abbrev pub lowered : List ℕ → List ℕ
lowered field = map to_ascii_lowercase field

-- one of two words, but for capital letters
abbrev pub is_either : List ℕ → List ℕ → List ℕ → Bool
is_either first second field = bytes_eq (lowered field) first || bytes_eq (lowered field) second

-- ---- the form of the input

-- one field alone
abbrev pub is_lone : List (List ℕ) → Bool
is_lone fields = length fields == 1

-- the first five fields begin with letters
abbrev pub has_names : List (List ℕ) → Bool
has_names fields = list_all (λ place. has_letter_first (field_of place fields)) (0 ∷ 1 ∷ 2 ∷ 3 ∷ 4 ∷ [])

-- they do, and the second is no command word
abbrev pub is_header : List (List ℕ) → Bool
is_header fields = has_names fields && not (is_command_word (lowered (field_of 1 fields)))

-- what the input is likely to be, by the record with this number, if it isn't an order file
unfoldable pub form_hint : ℕ → List (List ℕ) → Option Hint
form_hint number fields =
    if (number == 1) && is_utf_16 (field_of 0 fields) then Some hint.Utf16
    else if is_lone fields && has_byte 59 (field_of 0 fields) then Some hint.Semicolons
    else if is_lone fields && has_byte 9 (field_of 0 fields) then Some hint.Tabs
    else if (number == 1) && is_header fields then Some hint.Header
    else None

-- ---- fields

-- a field that is no member
abbrev pub member_hint : List ℕ → DayTerms → Option Hint
member_hint field terms =
    if has_blank_edge field then Some hint.Spaces
    else if is_decimal field then Some hint.DecimalPoint
    else if is_whole field then Some (hint.NoSuchMember terms.members)
    else None

-- a field that is no command word
abbrev pub command_hint : List ℕ → Option Hint
command_hint field =
    if has_blank_edge field then Some hint.Spaces
    else if is_command_word (lowered field) then Some hint.Capitals
    else None

abbrev pub number_hint : List ℕ → Option Hint
number_hint field =
    if has_blank_edge field then Some hint.Spaces
    else if is_decimal field then Some hint.DecimalPoint
    else None

abbrev pub side_hint : List ℕ → Option Hint
side_hint field =
    if has_blank_edge field then Some hint.Spaces
    else if is_either (codes "bid") (codes "ask") field then Some hint.Capitals
    else if is_either (codes "buy") (codes "sell") field then Some hint.BuyOrSell
    else None

abbrev pub limit_hint : List ℕ → DayTerms → Option Hint
limit_hint field terms =
    if has_blank_edge field then Some hint.Spaces
    else if bytes_eq (lowered field) (codes "market") then Some hint.Capitals
    else if is_decimal field then Some hint.DecimalPoint
    else if is_whole field then Some (hint.OutOfBounds terms.low terms.high)
    else None

abbrev pub restriction_hint : List ℕ → Option Hint
restriction_hint field =
    if has_blank_edge field then Some hint.Spaces
    else if is_either (codes "opening") (codes "closing") field then Some hint.Capitals
    else None

-- ---- a record

abbrev pub is_enter : List (List ℕ) → Bool
is_enter fields = bytes_eq (field_of 1 fields) (codes "enter")

-- the first record of a journal
abbrev pub is_of_day : List (List ℕ) → Bool
is_of_day fields = bytes_eq (field_of 0 fields) (codes "day")

-- the field with this number, from 1
unfoldable pub field_hint : ℕ → List (List ℕ) → DayTerms → Option Hint
field_hint number fields terms =
    if is_of_day fields then number_hint (field_of (number - 1) fields)
    else if (number == 3) && is_enter fields then side_hint (field_of (number - 1) fields)
    else if number == 5 then limit_hint (field_of (number - 1) fields) terms
    else if number == 7 then restriction_hint (field_of (number - 1) fields)
    else number_hint (field_of (number - 1) fields)

-- the first hint, if there is one, and else the second
abbrev pub first_hint : Option Hint → Option Hint → Option Hint
first_hint (Some found) other = Some found
first_hint None other = other

unfoldable pub hint_of_record : RecordFault → ℕ → List (List ℕ) → DayTerms → Option Hint
hint_of_record fault.BadMember number fields terms =
    first_hint (form_hint number fields) (member_hint (field_of 0 fields) terms)
hint_of_record fault.BadCommand number fields terms = command_hint (field_of 1 fields)
hint_of_record fault.BadCount number fields terms = None
hint_of_record (fault.BadField field) number fields terms = field_hint field fields terms
