-- The record of the day that was opened.
use Rattle.std.specs.Prelude.{ℕ, ◌+◌, ◌≤◌, List, [], ◌∷◌, Bool, true, false, ◌&&◌, nat_le, if◌then◌else◌, codes}
use Rattle.std.specs.Prelude.{decimal, Option, Some, None, IfSome, Result, Ok, Err}
use Rattle.std.specs.Str.{bytes_eq}
use Rattle.csv.specs.Records.{field_at}
use Rattle.auction_terms.specs.declared.limits.TheConstants.{MAX_CALLS, MAX_MEMBERS, MAX_OPEN_ORDERS, MAX_TICK}
use Rattle.auction_terms.specs.Results.{◌>>=◌}
use Rattle.order_file.specs.Field.{number_of}
use Rattle.order_file.specs.Record.{count_within, field_as}
use Rattle.order_file.specs.declared.fault.RecordFault.{RecordFault}
use Rattle.order_file.specs.declared.fault.RecordFault.TheVariants.{BadField}
use Rattle.journal.specs.declared.day.DayHeader.{DayHeader}
use Rattle.journal.specs.CallFields.{number_field}

unfoldable pub day_fields : DayHeader → List (List ℕ)
day_fields day =
    codes "day" ∷ decimal day.config.low ∷ decimal day.config.high ∷ decimal day.config.reference
    ∷ decimal day.members ∷ decimal day.config.max_open ∷ decimal day.config.max_calls
    ∷ number_field day.config.range ∷ []

-- ---- read

abbrev pub is_day_word : Option (List ℕ) → Bool
is_day_word None = false
is_day_word (Some field) = bytes_eq field (codes "day")

-- a record is that of a day where its first field says so
unfoldable pub is_day_row : List (List ℕ) → Bool
is_day_row fields = is_day_word (field_at fields 0)

-- the number at a place, from `least` to `most`
unfoldable pub number_within : ℕ → ℕ → ℕ → List (List ℕ) → Result ℕ RecordFault
number_within least most place fields = do
  number ← field_as number_of place fields
  if nat_le least number && nat_le number most then Ok number else Err (BadField (place + 1))

abbrev pub is_blank_field : Option (List ℕ) → Bool
is_blank_field (Some []) = true
is_blank_field (Some (b ∷ bs)) = false
is_blank_field None = false

-- the same, or none where the field is empty
unfoldable pub number_if_any : ℕ → ℕ → List (List ℕ) → Result (Option ℕ) RecordFault
number_if_any most place fields =
    if is_blank_field (field_at fields place) then Ok None
    else number_within 0 most place fields >>= λ number. Ok (Some number)

-- the day of a record, each number in the range of the option of its name, or the record's first fault
unfoldable pub day_of_record : List (List ℕ) → Result DayHeader RecordFault
day_of_record fields = do
  _ ← count_within 8 8 fields
  low ← number_within 1 MAX_TICK 1 fields
  high ← number_within 1 MAX_TICK 2 fields
  reference ← number_within 1 MAX_TICK 3 fields
  members ← number_within 1 MAX_MEMBERS 4 fields
  max_open ← number_within 1 MAX_OPEN_ORDERS 5 fields
  max_calls ← number_within 1 MAX_CALLS 6 fields
  range ← number_if_any MAX_TICK 7 fields
  Ok (record {
    config = record {
      low = low;
      high = high;
      reference = reference;
      max_open = max_open;
      max_calls = max_calls;
      range = range;
    };
    members = members;
  })

-- ---- the days that a record can hold

-- from 1 on
abbrev pub IsUpTo : ℕ → ℕ → Type 0
IsUpTo most n = (1 ≤ n) × (n ≤ most)

-- each number is in the range of the option of its name
pub record FitsDay (day : DayHeader) : Type 0 where
  pub low : IsUpTo MAX_TICK day.config.low
  pub high : IsUpTo MAX_TICK day.config.high
  pub reference : IsUpTo MAX_TICK day.config.reference
  pub members : IsUpTo MAX_MEMBERS day.members
  pub max_open : IsUpTo MAX_OPEN_ORDERS day.config.max_open
  pub max_calls : IsUpTo MAX_CALLS day.config.max_calls
  pub range : IfSome day.config.range (λ range. range ≤ MAX_TICK)
