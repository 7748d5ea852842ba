-- Answers of `without_mark` (src/line.rt): what the prover left open; rt looks here.
-- Of `without_mark`: the bytes after a mark, or all, in the form that `rt` wants.
use Rattle.std.proofs.Common.{sym, ◌∙◌}
use Rattle.live_session.proofs.InputLineLaws.{marked-long, strip-marked, strip-unmarked}
use Rattle.live_session.proofs.line.without_mark.Goals as goal

pub split_at-requires : goal.split_at-requires
split_at-requires c = marked-long _ (sym c.is_marked.ensures ∙ c.if-is_marked.true)

pub returns-then-is_marked : goal.returns-then-is_marked
returns-then-is_marked c =
    c.split_at.ensures.back ∙ sym (strip-marked _ (sym c.is_marked.ensures ∙ c.if-is_marked.true))

pub returns : goal.returns
returns c = sym (strip-unmarked _ (sym c.is_marked.ensures ∙ c.if-is_marked.false))
