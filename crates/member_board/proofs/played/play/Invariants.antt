-- Invariants of the loops of `play` (src/played.rt); rt looks here.
use Rattle.std.proofs.Common.{◌≡◌, ◌+◌, ◌≤◌, ◌++◌, length, vec_capacity}
use Rattle.member_board.specs.PlaysScript.{recorded_calls, AreAnswered}
use Rattle.member_board.proofs.played.play.Given as goal

abbrev pub invariant-loop-i : goal.invariant-loop-i
invariant-loop-i g l = record {
  receipts : length l.receipts.items ≡ l.i;
  room : length l.commands ≤ vec_capacity l.receipts;
  number : l.member.number ≡ l.initial.member.number;
  calls : l.member.calls ≡ l.initial.member.calls + l.i;
  mine : l.member.mine ≡ l.initial.member.mine ++ recorded_calls l.receipts.items l.commands;
  answered : AreAnswered g.K.BoardIdentity.config l.initial.member.number l.initial.member.seen l.receipts.items
      l.commands l.member.seen;
}
