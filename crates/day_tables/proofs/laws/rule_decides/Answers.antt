-- Answers of `rule_decides` (src/laws.rt): what the prover left open; rt looks here.
use Rattle.day_tables.proofs.RuleLaws.{rule_prices}
use Rattle.day_tables.proofs.laws.rule_decides.Goals as goal

pub returns : goal.returns
returns c = λ book reference. rule_prices book reference
