-- Answers of `is_plain` (src/plain.rt): what the prover left open; rt looks here.
use Rattle.std.proofs.Common.{Bool, ap, not, ◌∙◌}
use Rattle.live_session.proofs.UnquotedLineLaws.{plain-line}
use Rattle.live_session.proofs.plain.is_plain.Goals as goal

pub returns : goal.returns
returns c = λ none. plain-line c.args.line.now c.memchr3.result c.memchr3.ensures
    (ap not c.is_none.ensures ∙ ap (λ (b : Bool). not (not b)) none)
