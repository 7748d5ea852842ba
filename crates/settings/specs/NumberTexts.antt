-- The numbers that the options' texts say.
use Rattle.std.specs.Prelude.{ℕ, List, Option, option_map}
use Rattle.std.specs.Str.Parse.{digits_value, without_leading_plus}
use Rattle.clap.specs.Walk.{Row, Text, one_of}

-- the number that a text is read as
abbrev pub number_in : Text → ℕ
number_in text = digits_value 10 (without_leading_plus text)

-- the number of the option of this name, where it has one
abbrev pub number_at : Text → List Row → Option ℕ
number_at name rows = option_map number_in (one_of name rows)
