-- The fields of a line without quotes.
use Rattle.std.specs.Prelude.{◌≡◌, ◌==◌, ◌||◌, ℕ, List, [], ◌∷◌, ◌++◌, Bool, false, if◌then◌else◌}

-- a quote, a line feed or a carriage return
abbrev pub is_mark : ℕ → Bool
is_mark byte = (byte == 34) || (byte == 10) || (byte == 13)

-- no byte passes the test
abbrev pub HasNone : (ℕ → Bool) → List ℕ → Type 0
HasNone test [] = Unit {0}
HasNone test (byte ∷ bytes) = (test byte ≡ false) × HasNone test bytes

-- the fields of these bytes, which go on with a field of which these have come
unfoldable pub fields_on : List ℕ → List ℕ → List (List ℕ)
fields_on field [] = field ∷ []
fields_on field (byte ∷ bytes) = if byte == 44 then field ∷ fields_on [] bytes else fields_on (field ++ byte ∷ []) bytes

-- what is between the commas of a line
abbrev pub fields_of_line : List ℕ → List (List ℕ)
fields_of_line line = fields_on [] line
