-- Invariants of the loops of `accounts_error` (src/board/closing.rt); rt looks here.
use Rattle.std.proofs.Common.{◌≡◌, ◌<◌, ℕ, get_or}
use Rattle.auction_c.specs.declared.member_handle.AuctionMember.{AuctionMember}
use Rattle.auction_c.specs.BoardCalls.{HoldsAccount}
use Rattle.auction_c.proofs.board.closing.accounts_error.Given as goal

abbrev pub invariant-loop-i : goal.invariant-loop-i
invariant-loop-i l = record {
  same : l.handles ≡ l.fn.handles;
  each : (k : ℕ) (d : AuctionMember) → k < l.i → HoldsAccount l.locked k (get_or l.fn.handles k d).boxed.value;
}
