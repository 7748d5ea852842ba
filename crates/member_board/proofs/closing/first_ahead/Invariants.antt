-- Invariants of the loops of `first_ahead` (src/closing.rt); rt looks here.
use Rattle.std.proofs.Common.{◌<◌, ◌≤◌, ℕ, length, get_or}
use Rattle.auction_terms.specs.Day.{calls_of}
use Rattle.board_terms.specs.MemberView.{MemberView}
use Rattle.board_terms.specs.Closings.{HasSeenBeginning, HasMemberAhead}
use Rattle.member_board.proofs.closing.first_ahead.Given as goal

abbrev pub invariant-loop-i : goal.invariant-loop-i
invariant-loop-i g l = record {
  least : l.least ≤ l.n;
  some : l.least < l.n → HasMemberAhead l.least (length l.locked) l.members;
  first : (k : ℕ) (d : MemberView) → k < l.i → (get_or l.members k d).number < l.least
      → HasSeenBeginning g.K.Ledger.parts (calls_of l.locked) (get_or l.members k d);
  numbers : (k : ℕ) (d : MemberView) → k < l.i → (get_or l.members k d).number < l.n;
}
