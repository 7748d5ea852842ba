-- Invariants of the loops of `call_each` (src/board/calling_many.rt); rt looks here.
use Rattle.std.proofs.Common.{◌≡◌, ◌<◌, ◌+◌, ℕ, get_or, length}
use Rattle.auction_c.specs.declared.structs.AuctionReceipt.{AuctionReceipt}
use Rattle.auction_c.specs.ManyCalls.{IsSameFrom, RecordsFirst}
use Rattle.auction_c.proofs.board.calling_many.call_each.Given as goal

abbrev pub invariant-loop-i : goal.invariant-loop-i
invariant-loop-i l = record {
  board : l.locked.board ≡ l.member.board;
  each : RecordsFirst l.reserve l.i l.commands l.receipts l.fn.member l.member;
  count : length l.locked.history ≡ length l.fn.locked.history + l.i;
  numbers : (k : ℕ) (b : AuctionReceipt) → k < l.i
      → (get_or l.receipts k b).number ≡ length l.fn.locked.history + k + 1;
  rest : IsSameFrom l.i l.fn.receipts l.receipts;
}
