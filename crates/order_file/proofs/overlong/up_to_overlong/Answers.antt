-- Answers of `up_to_overlong` (src/overlong.rt): what the prover left open; rt looks here.
use Rattle.order_file.proofs.FewFieldLaws.{few-overlong, few-whole}
use Rattle.order_file.proofs.OverlongLaws.{cut-overlong, mark-within, whole-text}
use Rattle.order_file.proofs.overlong.up_to_overlong.Goals as goal

pub split_at-requires : goal.split_at-requires
split_at-requires c = rw c.mark_len-start.ensures (mark-within _)

pub returns-then-has_short_lines-clause-alike : goal.returns-then-has_short_lines-clause-alike
returns-then-has_short_lines-clause-alike c = whole-text _

pub returns-then-has_short_lines-clause-few : goal.returns-then-has_short_lines-clause-few
returns-then-has_short_lines-clause-few c =
    few-whole _ _ c.mark_len-start.ensures
    (rw c.split_at.ensures.back at (c.has_short_lines.ensures.few c.if-has_short_lines.true))

pub returns-clause-alike : goal.returns-clause-alike
returns-clause-alike c =
    rw c.split_at-2.ensures.front
    (cut-overlong _ _ _ c.mark_len-start.ensures (rw c.split_at.ensures.back at c.bytes_to_overlong.ensures.exact))

pub returns-clause-few : goal.returns-clause-few
returns-clause-few c =
    rw c.split_at-2.ensures.front
    (few-overlong _ _ _ c.mark_len-start.ensures (rw c.split_at.ensures.back at c.bytes_to_overlong.ensures.exact))
