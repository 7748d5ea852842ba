-- Invariants of the loops of `print_history` (src/tally.rt); rt looks here.
use Rattle.std.proofs.Common.{◌≡◌, List, ℕ, ◌++◌, Ok, drop}
use Rattle.printed_lines.specs.Printing.{Prints}
use Rattle.printed_lines.specs.Tally.{history_lines, history_lines_after}
use Rattle.printed_lines.proofs.tally.print_history.Given as goal

-- the lines so far were printed, and they and those that are left are all
abbrev pub invariant-loop-before : goal.invariant-loop-before
invariant-loop-before g l =
    (front : List ℕ) × (front ++ history_lines_after l.before (drop l.before l.entries) ≡ history_lines l.fn.entries)
    × Prints g.S.Sink l.fn.printer l.printer (Ok tt) front
