-- Invariants of the loops of `commands_of` (src/tests/members/turns.rt); rt looks here.
use Rattle.std.proofs.Common.{◌≤◌, length}
use Rattle.acceptance.proofs.tests.members.turns.commands_of.Given as goal

abbrev pub invariant-loop-i : goal.invariant-loop-i
invariant-loop-i l = length l.commands.items ≤ l.i
