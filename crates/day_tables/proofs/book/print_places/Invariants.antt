-- Invariants of the loops of `print_places` (src/book.rt); rt looks here.
use Rattle.std.proofs.Common.{◌≡◌, ◌≤◌, List, ℕ, ◌++◌, Ok, length}
use Rattle.printed_lines.specs.Printing.{Prints}
use Rattle.day_tables.specs.TableRows.{table_rows_below, HasHead}
use Rattle.day_tables.proofs.book.print_places.Given as goal

-- the rows so far were printed, and they and those below are all
abbrev pub invariant-places : goal.invariant-places
invariant-places g l = (l.place ≤ length l.table.bids.now) × HasHead l.table l.rows × (front : List ℕ)
    × (front ++ table_rows_below l.table l.place ≡ table_rows_below l.table (length l.table.bids.now))
    × Prints g.S.Sink l.fn.printer l.printer (Ok tt) front

abbrev pub decreases-places : goal.decreases-places
decreases-places g l = l.place
