-- Invariants of the loops of `apply_each` (src/applying.rt); rt looks here.
use Rattle.std.proofs.Common.{◌≡◌, length}
use Rattle.auction_c.proofs.ManyLaws.{IsApplied}
use Rattle.auction_c.proofs.applying.apply_each.Given as goal

abbrev pub invariant-loop-i : goal.invariant-loop-i
invariant-loop-i l =
    IsApplied l.reserve l.fn.auction l.commands l.fn.replies l.i l.auction l.replies
    × (length l.replies ≡ length l.fn.replies)
