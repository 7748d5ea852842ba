-- The faults of a run and the statuses that the program ends with.
use Rattle.std.specs.Prelude.{ℕ, Result, Ok, Err}
use Rattle.order_file.specs.declared.fault.FileFault.{FileFault}
use Rattle.order_file.specs.declared.fault.FileFault.TheVariants as file
use Rattle.auction.specs.declared.OpenFault.{OpenFault}
use Rattle.auction.specs.declared.OpenFault.TheVariants as opening
use Rattle.program_runs.specs.declared.fault.Fault.{Fault}
use Rattle.program_runs.specs.declared.fault.Fault.TheVariants as fault
use Rattle.program_runs.specs.declared.fault.Finish.{Finish}
use Rattle.program_runs.specs.declared.fault.Finish.TheVariants.{Incomplete, Lawful, Unlawful}

-- what came of a run: what it says of its day, or why it ended early
abbrev pub RunResult : Type 0
RunResult = Result Finish Fault

-- 1 for a bad file, 3 for a failed read and for refused memory
abbrev pub file_status : FileFault → ℕ
file_status file.ReadFailed = 3
file_status file.NoMemory = 3
file_status f = 1

-- 2 for bounds, a reference or limits that no auction has, 3 for refused memory
abbrev pub open_status : OpenFault → ℕ
open_status opening.NoMemory = 3
open_status f = 2

abbrev pub status_of : Fault → ℕ
status_of (fault.File f) = file_status f
status_of (fault.Open f) = open_status f
status_of f = 3

-- 0 for a lawful day, 4 for one that isn't, 5 where a broken journal leaves it open
abbrev pub finish_status : Finish → ℕ
finish_status Lawful = 0
finish_status Unlawful = 4
finish_status Incomplete = 5

-- of a run that was done, and else that of its fault
abbrev pub run_status : RunResult → ℕ
run_status (Ok finish) = finish_status finish
run_status (Err f) = status_of f

-- a fault of the input as one of a run
abbrev pub file_fault : FileFault → Fault
file_fault f = fault.File f
