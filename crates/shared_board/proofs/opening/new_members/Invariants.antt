-- Invariants of the loops of `new_members` (src/opening.rt); rt looks here.
use Rattle.std.proofs.Common.{◌≡◌}
use Rattle.board_terms.specs.BoardViews.{new_board_members}
use Rattle.shared_board.proofs.opening.new_members.Given as goal

abbrev pub invariant-loop-number : goal.invariant-loop-number
invariant-loop-number l = l.members.items ≡ new_board_members l.day l.number
