-- What the options' texts are, after a parse that succeeds.
use Rattle.std.specs.Prelude.{◌≡◌, ◌≤◌, ◌⊎◌, ℕ, List, codes, IfSome, IsSomeAnd}
use Rattle.std.specs.Str.Parse.{IsNumeral, without_leading_plus}
use Rattle.clap.specs.Built.{IsParsedFrom}
use Rattle.clap.specs.Simple.{app_of}
use Rattle.clap.specs.Matches.{found_of}
use Rattle.clap.specs.Walk.{Row, Text, one_of, rows_of}
use Rattle.clap.specs.declared.builder.command.Command.{Command}
use Rattle.clap.specs.declared.parser.matches.ArgMatches.{ArgMatches}
use Rattle.settings.specs.Options.{callboard}
use Rattle.settings.specs.NumberTexts.{number_in}

-- the options in the matches of a parse, with their texts
abbrev pub rows_in : ArgMatches → List Row
rows_in m = rows_of (found_of m)

-- the matches are those of a parse of the command
abbrev pub IsParsed : ArgMatches → Type 0
IsParsed m = (c : Command) × (app_of c ≡ callboard) × IsParsedFrom c m

-- digits, with a plus before them or not, of a number from `least` to `most`
abbrev pub IsNumberIn : ℕ → ℕ → Text → Type 0
IsNumberIn least most text =
    IsNumeral 10 (without_leading_plus text) × (least ≤ number_in text) × (number_in text ≤ most)

-- the option of this name has such a text
abbrev pub HasNumber : ℕ → ℕ → Text → List Row → Type 0
HasNumber least most name rows = IsSomeAnd (one_of name rows) (IsNumberIn least most)

-- the same, of an option that may be left out
abbrev pub MayHaveNumber : ℕ → ℕ → Text → List Row → Type 0
MayHaveNumber least most name rows = IfSome (one_of name rows) (IsNumberIn least most)

-- the same of a number of 32 bits, from 0 on
abbrev pub HasU32 : Text → List Row → Type 0
HasU32 name rows = HasNumber 0 4294967295 name rows

abbrev pub MayHaveU32 : Text → List Row → Type 0
MayHaveU32 name rows = MayHaveNumber 0 4294967295 name rows

-- the text of the flag of this name, if it has one, is `true` or `false`
abbrev pub HasSwitch : Text → List Row → Type 0
HasSwitch name rows =
    IfSome (one_of name rows) (λ text. (text ≡ codes "true") ⊎ (text ≡ codes "false"))
