-- Invariants of the loops of `read_behind` (src/input.rt); rt looks here.
use Rattle.std.proofs.Common.{◌≡◌}
use Rattle.order_file.specs.Rows.{IsRecordReader, rows_left}
use Rattle.input_hints.specs.InputHints.{row_in}
use Rattle.input_hints.proofs.input.read_behind.Given as goal

-- the record comes after as many others as are left to pass over
abbrev pub invariant-rows : goal.invariant-rows
invariant-rows l =
    IsRecordReader l.records.rows
    × (row_in l.left (rows_left l.records.rows) ≡ row_in l.fn.before (rows_left l.fn.records.rows))

abbrev pub decreases-rows : goal.decreases-rows
decreases-rows l = l.left
