-- Records of plain fields as text: fields parted by commas, each record ended by a line feed.
use Rattle.std.specs.Prelude.{◌==◌, ◌||◌, ◌<◌, ℕ, List, [], ◌∷◌, ◌++◌, length, not, Bool, IsTrue}
use Rattle.std.specs.List.{list_all, AllByRecursion}

-- no comma, quote, carriage return or line feed
abbrev pub is_plain_byte : ℕ → Bool
is_plain_byte b = not ((b == 44) || (b == 34) || (b == 13) || (b == 10))

abbrev pub IsPlain : List ℕ → Type 0
IsPlain field = IsTrue (list_all is_plain_byte field)

-- what follows the first field of a record
unfoldable pub fields_to_line_end : List (List ℕ) → List ℕ
fields_to_line_end [] = 10 ∷ []
fields_to_line_end (field ∷ fields) = 44 ∷ (field ++ fields_to_line_end fields)

unfoldable pub record_line : List (List ℕ) → List ℕ
record_line [] = 10 ∷ []
record_line (field ∷ fields) = field ++ fields_to_line_end fields

-- the text of records
unfoldable pub record_lines : List (List (List ℕ)) → List ℕ
record_lines [] = []
record_lines (row ∷ rows) = record_line row ++ record_lines rows

-- there is a first field, and it is not empty; no field has a mark of the format in it
abbrev pub IsPlainRow : List (List ℕ) → Type 0
IsPlainRow [] = ⊥
IsPlainRow (field ∷ fields) = (0 < length field) × IsPlain field × AllByRecursion IsPlain fields
