-- Answers of `with_others` (src/options.rt): what the prover left open; rt looks here.
use Rattle.settings.specs.Table.{rule_for_other}
use Rattle.settings.proofs.Built.{all_rules, more_rules, no_rules}
use Rattle.settings.proofs.options.with_others.Goals as goal

pub loop-other-init : goal.loop-other-init
loop-other-init c = no_rules _

pub loop-other-preserved : goal.loop-other-preserved
loop-other-preserved c =
    more_rules rule_for_other _ _ _ _ _ _ _ c.loop-other-test.true c.loop-other.invariant c.other_option.ensures.rule
    (c.in_ok-command.ensures.shape c.other_option.ensures.local)

pub returns-clause-options : goal.returns-clause-options
returns-clause-options c = all_rules rule_for_other _ _ _ _ c.loop-other-test.false c.loop-other.invariant
