-- Invariants of the loops of `with_numbers` (src/options.rt); rt looks here.
use Rattle.std.proofs.Common.{◌≡◌, map, take}
use Rattle.clap.specs.Simple.{app_of}
use Rattle.settings.specs.Table.{rule_for, with_rules}
use Rattle.settings.proofs.options.with_numbers.Given as goal

abbrev pub invariant-loop-number : goal.invariant-loop-number
invariant-loop-number l =
    app_of l.command ≡ with_rules (app_of l.fn.command) (map rule_for (take l.number-index l.numbers))
