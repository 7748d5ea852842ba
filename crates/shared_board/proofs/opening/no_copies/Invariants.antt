-- Invariants of the loops of `no_copies` (src/opening.rt); rt looks here.
use Rattle.std.proofs.Common.{◌≡◌, All}
use Rattle.board_terms.specs.BoardViews.{OpenedBoard}
use Rattle.shared_board.proofs.opening.no_copies.Given as goal

abbrev pub invariant-loop : goal.invariant-loop
invariant-loop l = All (λ (p : OpenedBoard). p ≡ l.day) l.copies.items
