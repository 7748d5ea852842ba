-- Invariants of the loops of `are_complete` (src/closing.rt); rt looks here.
use Rattle.std.proofs.Common.{◌≡◌, ◌<◌, ℕ, count_by, ◌==◌}
use Rattle.board_terms.specs.MemberView.{MemberView}
use Rattle.member_board.proofs.closing.are_complete.Given as goal

abbrev pub invariant-loop-number : goal.invariant-loop-number
invariant-loop-number g l = (k : ℕ) → k < l.number → count_by (λ (m : MemberView). m.number == k) l.members ≡ 1
