-- Invariants of the loops of `scripts` (src/tests/members.rt); rt looks here.
use Rattle.std.proofs.Common.{take}
use Rattle.member_board.specs.PlaysScript.{FitsMembers}
use Rattle.acceptance.proofs.tests.members.scripts.Given as goal

abbrev pub invariant-loop-member : goal.invariant-loop-member
invariant-loop-member g l = FitsMembers (take l.member-index l.members) l.scripts.items
