-- An input as lines, and a line as a record.
use Rattle.std.specs.Prelude.{◌≡◌, ◌<◌, ◌==◌, ◌||◌, ℕ, List, [], ◌∷◌, ◌++◌, length, nat_lt, slice_index, take, Bool}
use Rattle.std.specs.Prelude.{true, false, if◌then◌else◌, Option, Some, None}
use Rattle.csv.specs.Machine.{ends_at_end, step}
use Rattle.csv.specs.Reading.{default_config, is_bom, strip_bom}
use Rattle.csv.specs.declared.parser.State.{State}
use Rattle.csv.specs.declared.parser.State.TheVariants as st
use Rattle.live_session.specs.declared.line.TheConstants.{MAX_RECORD_BYTES}

-- the lines that have ended, and the bytes of the one at hand
pub record Lines : Type 0 where
  pub ended : List (List ℕ)
  pub at_hand : List ℕ

abbrev pub no_lines : Lines
no_lines = record { ended = []; at_hand = [] }

-- a line feed or a carriage return
abbrev pub is_line_end : ℕ → Bool
is_line_end byte = (byte == 10) || (byte == 13)

-- the line at hand has ended
abbrev pub line_ended : Lines → Lines
line_ended lines = record { ended = lines.ended ++ lines.at_hand ∷ []; at_hand = [] }

-- these bytes belong to the line at hand
abbrev pub line_longer : List ℕ → Lines → Lines
line_longer bytes lines = record { ended = lines.ended; at_hand = lines.at_hand ++ bytes }

-- after one more byte
abbrev pub next_byte : Lines → ℕ → Lines
next_byte lines byte = if is_line_end byte then line_ended lines else line_longer (byte ∷ []) lines

-- after these bytes
unfoldable pub lines_once_read : Lines → List ℕ → Lines
lines_once_read lines [] = lines
lines_once_read lines (byte ∷ bytes) = lines_once_read (next_byte lines byte) bytes

-- the lines of what has come of an input
abbrev pub lines_of : List ℕ → Lines
lines_of heard = lines_once_read no_lines heard

-- ---- a line

-- more bytes than a record may have
abbrev pub is_too_long : List ℕ → Bool
is_too_long line = nat_lt MAX_RECORD_BYTES (length line)

-- a byte order mark is at the front
abbrev pub is_marked : List ℕ → Bool
is_marked [] = false
is_marked (a ∷ []) = false
is_marked (a ∷ b ∷ []) = false
is_marked (a ∷ b ∷ c ∷ rest) = is_bom a b c

-- a line as a text of records: a byte order mark before it is dropped
abbrev pub text_of_record : List ℕ → List ℕ
text_of_record line = strip_bom line ++ 10 ∷ []

-- the state in which these bytes leave the reader of records
unfoldable pub line_state_after : State → List ℕ → State
line_state_after state [] = state
line_state_after state (byte ∷ bytes) = line_state_after (step default_config state byte).0 bytes

-- after these bytes a record is at hand
abbrev pub is_record_open : List ℕ → Bool
is_record_open text = ends_at_end (line_state_after st.StartRecord text)

-- a quote that was opened isn't closed: the record would go on after the line's end
abbrev pub is_quote_open : List ℕ → Bool
is_quote_open line = is_record_open (text_of_record line)

-- ---- where a line ends

-- no line end is among these bytes
abbrev pub HasNoLineEnd : List ℕ → Type 0
HasNoLineEnd [] = Unit {0}
HasNoLineEnd (byte ∷ bytes) = (is_line_end byte ≡ false) × HasNoLineEnd bytes

-- the first line end of these bytes, if they have one
abbrev pub IsFirstLineEnd : List ℕ → Option ℕ → Type 0
IsFirstLineEnd bytes None = HasNoLineEnd bytes
IsFirstLineEnd bytes (Some place) =
    (place < length bytes) × (is_line_end (slice_index bytes place) ≡ true) × HasNoLineEnd (take place bytes)
