-- Answers of `with_numbers` (src/options.rt): what the prover left open; rt looks here.
use Rattle.settings.specs.Table.{rule_for}
use Rattle.settings.proofs.Built.{all_rules, more_rules, no_rules}
use Rattle.settings.proofs.options.with_numbers.Goals as goal

pub loop-number-init : goal.loop-number-init
loop-number-init c = no_rules _

pub loop-number-preserved : goal.loop-number-preserved
loop-number-preserved c =
    more_rules rule_for _ _ _ _ _ _ _ c.loop-number-test.true c.loop-number.invariant c.number_option.ensures.rule
    (c.in_ok-command.ensures.shape c.number_option.ensures.local)

pub returns-clause-options : goal.returns-clause-options
returns-clause-options c = all_rules rule_for _ _ _ _ c.loop-number-test.false c.loop-number.invariant
