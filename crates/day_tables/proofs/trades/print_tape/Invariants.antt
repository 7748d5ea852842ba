-- Invariants of the loops of `print_tape` (src/trades.rt); rt looks here.
use Rattle.std.proofs.Common.{◌≡◌, List, ℕ, ◌++◌, Ok, drop}
use Rattle.printed_lines.specs.Printing.{Prints}
use Rattle.day_tables.specs.TableMembers.{member_of_id}
use Rattle.day_tables.specs.TradeTable.{trade_records}
use Rattle.day_tables.proofs.trades.print_tape.Given as goal

-- the records so far were printed, and they and those that are left are all
abbrev pub invariant-loop-place : goal.invariant-loop-place
invariant-loop-place g l = (front : List ℕ)
    × (front ++ trade_records (member_of_id l.members) l.place (drop l.place l.kinds) (drop l.place l.tape)
    ≡ trade_records (member_of_id l.members) 0 l.fn.kinds l.fn.tape)
    × Prints g.S.Sink l.fn.printer l.printer (Ok tt) front
