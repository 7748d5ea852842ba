-- Invariants of the loops of `with_others` (src/options.rt); rt looks here.
use Rattle.std.proofs.Common.{◌≡◌, map, take}
use Rattle.clap.specs.Simple.{app_of}
use Rattle.settings.specs.Table.{rule_for_other, with_rules}
use Rattle.settings.proofs.options.with_others.Given as goal

abbrev pub invariant-loop-other : goal.invariant-loop-other
invariant-loop-other l =
    app_of l.command ≡ with_rules (app_of l.fn.command) (map rule_for_other (take l.other-index l.others))
