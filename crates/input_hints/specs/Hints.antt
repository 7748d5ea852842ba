-- The texts of likely causes.
use Rattle.std.specs.Prelude.{ℕ, ◌==◌, ◌||◌, ◌&&◌, not, Bool, false, List, [], ◌∷◌, ◌++◌, codes, decimal}
use Rattle.input_hints.specs.FieldLooks.{has_byte}
use Rattle.input_hints.specs.declared.hint.Hint.{Hint}
use Rattle.input_hints.specs.declared.hint.Hint.TheVariants as hint

-- a dot or a slash, and no dash at the front
abbrev pub is_like_file : List ℕ → Bool
is_like_file [] = false
is_like_file (byte ∷ rest) = not (byte == 45) && (has_byte 46 (byte ∷ rest) || has_byte 47 (byte ∷ rest))

abbrev pub hint_text : Hint → List ℕ
hint_text hint.Utf16 = codes "the input looks like UTF-16: save it as UTF-8"
hint_text hint.Semicolons = codes "the input has semicolons: fields are parted by commas"
hint_text hint.Tabs = codes "the input has tabs: fields are parted by commas"
hint_text hint.Header = codes "the first record looks like a header: leave it out"
hint_text hint.Spaces = codes "a field has no spaces around it"
hint_text hint.Capitals = codes "words are in lower case"
hint_text hint.BuyOrSell = codes "a side is bid or ask"
hint_text hint.DecimalPoint = codes "numbers are whole, prices in ticks"
hint_text (hint.NoSuchMember members) = codes "members are numbered from 0, and there are " ++ decimal members
hint_text (hint.OutOfBounds low high) =
    codes "limits are ticks from " ++ (decimal low ++ (codes " to " ++ decimal high))
