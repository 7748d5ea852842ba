-- Answers of `Curves::rule` (src/curves.rt): what the prover left open; rt looks here.
use Rattle.std.proofs.Common.{◌∙◌}
use Rattle.day_tables.proofs.curves.Curves.rule.Goals as goal

pub returns : goal.returns
returns c low book are =
    let best = c.deref-3.ensures.value in
    c.rule_among.ensures low book
    (rw best (c.deref.ensures.value ∙ are.demands)) (rw best (c.deref-2.ensures.value ∙ are.supplies))
    (rw best are.best)
