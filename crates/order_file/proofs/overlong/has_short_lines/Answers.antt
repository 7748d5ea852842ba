-- Answers of `has_short_lines` (src/overlong.rt): what the prover left open; rt looks here.
use Rattle.std.proofs.Common.{sym, ◌∙◌}
use Rattle.order_file.proofs.FewFieldLaws.{few-in_short, no-quote}
use Rattle.order_file.proofs.overlong.has_short_lines.Goals as goal

pub returns-then-text-le-SHORT_LINE-clause-few : goal.returns-then-text-le-SHORT_LINE-clause-few
returns-then-text-le-SHORT_LINE-clause-few c = λ good. few-in_short _ c.if-text-le-SHORT_LINE.true

pub are_lines_short-requires : goal.are_lines_short-requires
are_lines_short-requires c = no-quote _ c.memchr.result (sym c.is_some.ensures ∙ c.if-is_some.false) c.memchr.ensures
