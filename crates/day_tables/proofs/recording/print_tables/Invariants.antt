-- Invariants of the loops of `print_tables` (src/recording.rt); rt looks here.
use Rattle.std.proofs.Common.{◌≡◌, ◌++◌, ℕ, List, drop, Ok}
use Rattle.auction_terms.specs.declared.Config.{Config}
use Rattle.printed_lines.specs.Printing.{Prints}
use Rattle.day_tables.specs.BookRecorder.{AreTables}
use Rattle.day_tables.specs.TableCurves.{HasRoomForTicks}
use Rattle.day_tables.proofs.BookRecorderLaws.{AreLong}
use Rattle.day_tables.proofs.recording.print_tables.Given as goal

-- the tables so far were printed, and they and those that are left are all
abbrev pub invariant-loop-table : goal.invariant-loop-table
invariant-loop-table g l = (n : ℕ) × HasRoomForTicks n l.curves × AreLong n (drop l.table-index l.tables)
    × ((config : Config) (text : List ℕ) → AreTables config l.fn.tables text
    → (front : List ℕ) × (rest : List ℕ) × (front ++ rest ≡ text) × AreTables config (drop l.table-index l.tables) rest
    × Prints g.S.Sink l.fn.printer l.printer (Ok tt) front)
