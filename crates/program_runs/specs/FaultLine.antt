-- The line that is printed of a fault.
use Rattle.std.specs.Prelude.{ℕ, List, ◌++◌, Result, codes}
use Rattle.byte_streams.specs.Writing.{WritesAll}
use Rattle.byte_streams.specs.declared.sink.Sink.{Ghosts}
use Rattle.byte_streams.specs.declared.writing.WriteFailed.{WriteFailed}
use Rattle.order_file.specs.FileFault.{fault_text}
use Rattle.auction.specs.declared.OpenFault.TheVariants as opening
use Rattle.program_runs.specs.declared.fault.Fault.{Fault}
use Rattle.program_runs.specs.declared.fault.Fault.TheVariants as fault

abbrev pub fault_line : Fault → List ℕ
fault_line (fault.File f) = fault_text f
fault_line (fault.Open opening.BadBounds) = codes "bad bounds"
fault_line (fault.Open opening.BadReference) = codes "bad reference"
fault_line (fault.Open opening.BadCapacity) = codes "bad limits"
fault_line (fault.Open opening.NoMemory) = codes "out of memory"
fault_line fault.NoMemory = codes "out of memory"
fault_line fault.NotClosed = codes "floor not closed"
fault_line fault.WriteFailed = codes "write failed"

-- this line was written with its end, at a failed write a beginning of it
abbrev pub WritesOneLine : {S : Type 0} → Ghosts S → S → S → List ℕ → Type 0
WritesOneLine sink old new line = (r : Result (Unit {0}) WriteFailed) × WritesAll sink old new r (line ++ codes "\n")
