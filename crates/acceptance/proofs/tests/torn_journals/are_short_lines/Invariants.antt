-- Invariants of the loop of `are_short_lines` (src/tests/torn_journals.rt); rt looks here.
use Rattle.std.proofs.Common.{take}
use Rattle.acceptance.proofs.ShortLines.{HasReadLines}
use Rattle.acceptance.proofs.tests.torn_journals.are_short_lines.Given as goal

abbrev pub invariant-loop-byte : goal.invariant-loop-byte
invariant-loop-byte l = HasReadLines (take l.byte-index l.lines) l.count
