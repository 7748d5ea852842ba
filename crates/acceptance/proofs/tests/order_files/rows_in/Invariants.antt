-- Invariants of the loops of `rows_in` (src/tests/order_files.rt); rt looks here.
use Rattle.order_file.specs.Rows.{IsRecordReader}
use Rattle.acceptance.proofs.tests.order_files.rows_in.Given as goal

abbrev pub invariant-loop-count : goal.invariant-loop-count
invariant-loop-count l = IsRecordReader l.records.rows
