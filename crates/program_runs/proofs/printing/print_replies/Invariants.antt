-- Invariants of the loops of `print_replies` (src/printing.rt); rt looks here.
use Rattle.std.proofs.Common.{◌≡◌, ◌+◌, List, ℕ, ◌++◌, length, Ok}
use Rattle.printed_lines.specs.ReplyLines.{lines, lines_after}
use Rattle.printed_lines.specs.Printing.{Prints}
use Rattle.program_runs.proofs.printing.print_replies.Given as goal

-- the lines so far were printed, and they and those that are left are all
abbrev pub invariant-loop-place : goal.invariant-loop-place
invariant-loop-place g l = (front : List ℕ) × (front ++ lines_after l.place l.left ≡ lines l.replies)
    × (l.place + length l.left ≡ length l.replies) × Prints g.S.Sink l.fn.printer l.printer (Ok tt) front
