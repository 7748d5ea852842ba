-- Answers of `are_complete` (src/closing.rt): what the prover left open; rt looks here.
use Rattle.std.proofs.Common.{arith, refl, below_more, ◌∙◌, sym}
use Rattle.member_board.proofs.closing.are_complete.Goals as goal

pub returns-then-count_with-ne1 : goal.returns-then-count_with-ne1
returns-then-count_with-ne1 g c = (
  λ e. absurd cc,
  λ e. absurd (c.if-count_with-ne1.true (c.count_with.ensures ∙ e.1 c.loop-number.number c.loop-number-test.true)),
)

pub loop-number-preserved : goal.loop-number-preserved
loop-number-preserved g c =
    below_more _ _ c.loop-number.invariant (sym c.count_with.ensures ∙ c.if-count_with-ne1.false)

pub returns : goal.returns
returns g c =
    (λ e. (c.if-members-from.false ∙ c.from.ensures, λ k lt. c.loop-number.invariant k (omega arith)), λ e. refl)
