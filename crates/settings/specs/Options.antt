-- The options of the command line, as a parse reads them.
use Rattle.std.specs.Prelude.{ℕ, pos, List, [], ◌∷◌, Option, Some, None, codes, true}
use Rattle.std.specs.Option.{option_map_or}
use Rattle.auction_terms.specs.declared.limits.TheConstants.{MAX_CALLS, MAX_MEMBERS, MAX_OPEN_ORDERS, MAX_TICK}
use Rattle.clap.specs.Walk.{Rule, Text}
use Rattle.clap.specs.Simple.{App, new_rule, new_shape}
use Rattle.clap.specs.declared.builder.action.ArgAction.TheVariants.{Set, SetTrue}
use Rattle.clap.specs.declared.builder.value_parser.ValueParser.TheVariants as parser

-- an option with a number: its name, its least and its most number, and what it is where it is left
-- out
abbrev pub number : Text → ℕ → ℕ → Option Text → Rule
number name least most default = record (new_rule name) {
  long = Some name;
  action = Some Set;
  value_names = 1;
  defaults = option_map_or (λ text. text ∷ []) default [];
  parser = Some (parser.Signed (pos least) (pos most));
}

-- an option that is given or not
abbrev pub flag : Text → Rule
flag name = record (new_rule name) {
  long = Some name;
  action = Some SetTrue;
  parser = Some parser.Bool;
}

-- an option with a word, which may be left out
abbrev pub word : Text → Rule
word name = record (new_rule name) {
  long = Some name;
  action = Some Set;
  value_names = 1;
}

-- in the order of the help
abbrev pub options : List Rule
options = number (codes "low") 1 MAX_TICK (Some (codes "1"))
    ∷ number (codes "high") 1 MAX_TICK (Some (codes "1000"))
    ∷ number (codes "reference") 1 MAX_TICK (Some (codes "200"))
    ∷ number (codes "open") 1 MAX_OPEN_ORDERS (Some (codes "4096"))
    ∷ number (codes "calls") 1 MAX_CALLS (Some (codes "65536"))
    ∷ number (codes "range") 0 MAX_TICK None
    ∷ number (codes "members") 1 MAX_MEMBERS (Some (codes "4"))
    ∷ number (codes "reserve") 0 MAX_CALLS None
    ∷ flag (codes "floor")
    ∷ flag (codes "history")
    ∷ word (codes "print")
    ∷ flag (codes "audit")
    ∷ flag (codes "results")
    ∷ flag (codes "live")
    ∷ word (codes "journal")
    ∷ word (codes "sync")
    ∷ []

-- the command: its name and its options, a version, and no subcommand
unfoldable pub callboard : App
callboard = record { top = record (new_shape (codes "callboard")) { rules = options; has_version = true }; subs = [] }
