-- Answers of `callboard` (src/options.rt): what the prover left open; rt looks here.
use Rattle.std.proofs.Common.{ap, map}
use Rattle.settings.specs.Table.{rule_for, rule_for_other}
use Rattle.settings.proofs.Built.{whole_if_made}
use Rattle.settings.proofs.options.callboard.Goals as goal

pub returns-clause-options : goal.returns-clause-options
returns-clause-options c =
    whole_if_made c.with_others.result _ _ _ _ c.without_options.ensures c.in_ok-command.ensures.options
    (ap (map rule_for) c.as_slice.ensures) (ap (map rule_for_other) c.as_slice-2.ensures)
    c.with_others.ensures.options
