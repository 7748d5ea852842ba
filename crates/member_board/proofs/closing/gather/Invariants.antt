-- Invariants of the loops of `gather` (src/closing.rt); rt looks here.
use Rattle.std.proofs.Common.{◌≡◌, ◌≤◌, ◌+◌, length}
use Rattle.board_terms.specs.Closings.{AreMemberCounts, IsKeptBack, kept_calls, kept_parts}
use Rattle.member_board.proofs.closing.gather.Given as goal

abbrev pub invariant-loop-member : goal.invariant-loop-member
invariant-loop-member g l = record {
  parts : l.joined.parts + kept_parts l.kept ≡ length l.yielded;
  book : l.book.total ≡ l.initial.book.total;
  counts : AreMemberCounts g.K.Ledger.parts l.yielded l.counts.items (l.joined.amount + kept_calls l.kept);
  most : l.joined.amount ≤ l.book.total;
  kept_calls_most : kept_calls l.kept ≤ l.book.total;
  kept : IsKeptBack l.ahead l.end l.yielded l.kept;
}
