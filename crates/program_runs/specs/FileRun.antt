-- What a run of an input owes: of its commands on an auction or on a board, or of its replies in an audit.
use Rattle.std.specs.Prelude.{◌≡◌, ◌<◌, ◌↔◌, ℕ, List, Option, None, unwrap_or, Result, Ok, Err, IfErr, IfSome, IsErrOf}
use Rattle.std.specs.Io.KnownBytes.{Appends}
use Rattle.byte_streams.specs.Streams.{AppendsBeginning}
use Rattle.order_file.specs.File.{FailsAsWanted}
use Rattle.order_file.specs.declared.fault.FileFault.{FileFault}
use Rattle.order_file.specs.declared.fault.FileFault.TheVariants.{ReadFailed}
use Rattle.byte_streams.specs.declared.source.Source as source
use Rattle.byte_streams.specs.declared.sink.Sink as sink
use Rattle.auction.specs.declared.OpenFault.{OpenFault}
use Rattle.auction.specs.declared.OpenFault.TheVariants.{NoMemory}
use Rattle.program_runs.specs.declared.fault.Fault.{Fault}
use Rattle.program_runs.specs.declared.fault.Fault.TheVariants as fault
use Rattle.program_runs.specs.declared.fault.Finish.{Finish}
use Rattle.program_runs.specs.Status.{RunResult}

-- What a run had and gave: what was left to read before and after it, what had been written before and after it, and
-- whether a read or a write failed.
pub record Ends : Type 1 where
  pub left : Option (List ℕ)
  pub rest : Option (List ℕ)
  pub old : Option (List ℕ)
  pub new : Option (List ℕ)
  pub ReadFailed : Type 0
  pub WriteFailed : Type 0

-- those of a reader and a writer, each before and after the run
abbrev pub ends_of : {R W : Type 0} → source.Ghosts R → sink.Ghosts W → R → R → W → W → Ends
ends_of reads writes reader reader' writer writer' = record {
  left = reads.left reader;
  rest = reads.left reader';
  old = writes.written writer;
  new = writes.written writer';
  ReadFailed = reads.failures reader < reads.failures reader';
  WriteFailed = writes.failures writer < writes.failures writer';
}

-- what a run had and gave, with the failures counted before and after it
abbrev pub ends_by : Option (List ℕ) → Option (List ℕ) → Option (List ℕ) → Option (List ℕ) → ℕ → ℕ → ℕ → ℕ → Ends
ends_by left rest old new reads reads_after writes writes_after = record {
  left = left;
  rest = rest;
  old = old;
  new = new;
  ReadFailed = reads < reads_after;
  WriteFailed = writes < writes_after;
}

-- What is to be run: what an input gives it, why that can't be opened, if there is a reason, which text may be written
-- of it with which finish, and which faults the run may end with.
pub record Job : Type 1 where
  pub Given : Type 0
  pub says : List ℕ → Result Given FileFault
  pub opening : Given → Option OpenFault
  pub Text : Given → Finish → List ℕ → Type 0
  pub Faults : Fault → Type 0

-- A fault that a run without a board may have: of its input, of the day's opening, or of writing.
abbrev pub IsWithoutBoard : Fault → Type 0
IsWithoutBoard fault.NoMemory = ⊥
IsWithoutBoard fault.NotClosed = ⊥
IsWithoutBoard f = Unit {0}

-- It was opened where there is no reason against it, and was refused for the first, or for refused memory.
abbrev pub OpensUnless : {X : Type 0} → Option OpenFault → Result X Fault → Type 0
OpensUnless reason (Err (fault.File f)) = Unit {0}
OpensUnless reason (Err (fault.Open f)) = f ≡ unwrap_or reason NoMemory
OpensUnless reason r = reason ≡ None

-- What was written of what was given: a text of it, at a failing write a beginning of one.
abbrev pub WritesOfInput : (job : Job) → Ends → job.Given → RunResult → Type 0
WritesOfInput job ends run_input (Ok finish) =
    (text : List ℕ) × job.Text run_input finish text × Appends ends.old ends.new text
WritesOfInput job ends run_input (Err fault.WriteFailed) =
    (finish : Finish) × (text : List ℕ) × job.Text run_input finish text × AppendsBeginning ends.old ends.new text
WritesOfInput job ends run_input (Err f) = Unit {0}

-- By what the input says: a fault of it comes first, and refused memory aside it is the first that the input has; else
-- what was given was opened, and written of.
abbrev pub WritesByInput : (job : Job) → Ends → Result job.Given FileFault → RunResult → Type 0
WritesByInput job ends said (Err (fault.File f)) = FailsAsWanted f said
WritesByInput job ends (Ok run_input) r = OpensUnless (job.opening run_input) r × WritesOfInput job ends run_input r
WritesByInput job ends (Err f) r = ⊥

-- nothing was written but by a run that failed to write
abbrev pub LeavesOutput : Ends → Fault → Type 0
LeavesOutput ends fault.WriteFailed = Unit {0}
LeavesOutput ends f = ends.new ≡ ends.old

pub record IsRunOf (job : Job) (ends : Ends) (run : RunResult) : Type 0 where
  pub read_failed : IsErrOf run (fault.File ReadFailed) ↔ ends.ReadFailed
  pub write_failed : IsErrOf run fault.WriteFailed ↔ ends.WriteFailed
  pub wrote : IfSome ends.left (λ bytes. WritesByInput job ends (job.says bytes) run)
  pub quiet : IfErr run (LeavesOutput ends)
  pub fault : IfErr run job.Faults

-- What was written once a job was opened: this text, at a failing write a beginning of it, and nothing at another
-- fault.
abbrev pub WritesText : Option (List ℕ) → Option (List ℕ) → List ℕ → Result (Unit {0}) Fault → Type 0
WritesText old new text (Ok u) = Appends old new text
WritesText old new text (Err fault.WriteFailed) = AppendsBeginning old new text
WritesText old new text (Err f) = new ≡ old
