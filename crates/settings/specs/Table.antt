-- The command as it is built: its texts, then the table of the options with a number, then that of the others.
use Rattle.std.specs.Prelude.{List, Option, Some, None, ◌++◌, codes, option_map, true}
use Rattle.std.specs.Borrow.{Bor}
use Rattle.clap.specs.Walk.{Rule, Text}
use Rattle.clap.specs.Simple.{App, new_app, on_top}
use Rattle.settings.specs.Options.{flag, number, word}
use Rattle.settings.specs.declared.options.Number.{Number}
use Rattle.settings.specs.declared.options.Other.{Other}

-- the option of a line of the table
abbrev pub rule_for : Number → Rule
rule_for n = number n.name.now n.least n.most (option_map (λ text. text.now) n.default)

-- the option of this name, with a word or a flag
abbrev pub word_or_flag : Text → Option (Bor Text) → Rule
word_or_flag name (Some value) = word name
word_or_flag name None = flag name

-- the option of a line of the other table
abbrev pub rule_for_other : Other → Rule
rule_for_other other = word_or_flag other.name.now other.value

-- the command with these options after its own
abbrev pub with_rules : App → List Rule → App
with_rules a rules = on_top (λ top. record top { rules = top.rules ++ rules }) a

-- the command with a version and no option
abbrev pub without_options : App
without_options = on_top (λ top. record top { has_version = true }) (new_app (codes "callboard"))
