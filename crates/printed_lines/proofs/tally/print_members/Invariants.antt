-- Invariants of the loops of `print_members` (src/tally.rt); rt looks here.
use Rattle.std.proofs.Common.{◌≡◌, List, ℕ, ◌++◌, Ok, drop}
use Rattle.printed_lines.specs.Printing.{Prints}
use Rattle.printed_lines.specs.Tally.{member_lines}
use Rattle.printed_lines.proofs.tally.print_members.Given as goal

-- the lines so far were printed, and they and those that are left are all
abbrev pub invariant-loop-before : goal.invariant-loop-before
invariant-loop-before g l =
    (front : List ℕ) × (front ++ member_lines l.before (drop l.before l.calls) ≡ member_lines 0 l.fn.calls)
    × Prints g.S.Sink l.fn.printer l.printer (Ok tt) front
