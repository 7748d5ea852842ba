-- Invariants of the loops of `boxed` (src/board/opening.rt); rt looks here.
use Rattle.std.proofs.Common.{◌≡◌, map}
use Rattle.auction_c.proofs.board.opening.boxed.Given as goal

abbrev pub invariant-loop-member : goal.invariant-loop-member
invariant-loop-member l =
    (map (λ b. b.value) l.boxes.items ≡ l.yielded)
