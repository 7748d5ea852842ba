-- Answers of `put_count` (src/hint.rt): what the prover left open; rt looks here.
use Rattle.std.proofs.Common.{◌++◌, ◌∙◌, ap, append_assoc, codes, decimal}
use Rattle.input_hints.proofs.hint.put_count.Goals as goal

pub returns-clause-text : goal.returns-clause-text
returns-clause-text c =
    (rw c.from.ensures at c.put_number.ensures.text) ∙ ap (λ t. t ++ decimal c.args.members) c.put.ensures.text
    ∙ append_assoc c.args.page.now (codes "members are numbered from 0, and there are ") (decimal c.args.members)
