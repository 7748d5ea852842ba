-- Invariants of the loops of `new_members` (src/fresh.rt); rt looks here.
use Rattle.std.proofs.Common.{◌≡◌, ◌+◌, ◌≤◌, vec_capacity}
use Rattle.board_terms.specs.BoardOpening.{newcomers}
use Rattle.member_board.proofs.fresh.new_members.Given as goal

abbrev pub invariant-loop-number : goal.invariant-loop-number
invariant-loop-number g l = record {
  parts : l.joined.parts + l.number ≡ g.K.Ledger.parts;
  amount : l.joined.amount ≡ 0;
  members : l.members.items ≡ newcomers l.number;
  len : l.members.len ≡ l.number;
  room : g.K.Ledger.parts ≤ vec_capacity l.members;
}
