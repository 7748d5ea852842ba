-- Answers of `record_run` (src/run.rt): what the prover left open; rt looks here.
use Rattle.std.proofs.Common.{Err}
use Rattle.journal.specs.DayWithCalls.{run_input}
use Rattle.program_runs.specs.declared.fault.Fault.TheVariants as fault
use Rattle.program_runs.proofs.FileSaidLaws.{begun-said, said-handed, start-said, start-unread}
use Rattle.program_runs.proofs.RecorderLaws.{known_said, unread_said}
use Rattle.program_runs.proofs.run.record_run.Goals as goal

pub returns-in_err-start-clause-recorded : goal.returns-in_err-start-clause-recorded
returns-in_err-start-clause-recorded g c =
    let f = c.in_err-start.field-0.0 in
    said-handed c.args.form _ (run_input c.args.day) c.from_residual.result (fault.File f) c.from_residual.ensures.1
    (start-unread c.args.form _ f (run_input c.args.day) c.in_err-start.ensures.faults)

pub returns-then-is_read_in_blocks-clause-recorded : goal.returns-then-is_read_in_blocks-clause-recorded
returns-then-is_read_in_blocks-clause-recorded g c =
    begun-said c.args.form c.args.day _ _ c.in_ok-start.start.items c.record_file.result c.in_ok-start.ensures.start.0
    (rw c.as_slice.ensures.value at (c.is_read_in_blocks.ensures.digit c.if-is_read_in_blocks.true))
    c.record_file.ensures.recorded

pub returns-in_err-bytes-clause-recorded : goal.returns-in_err-bytes-clause-recorded
returns-in_err-bytes-clause-recorded g c =
    let f = c.in_err-bytes.field-0.0 in
    said-handed c.args.form _ (run_input c.args.day) c.from_residual-in_err-bytes.result (fault.File f)
    c.from_residual-in_err-bytes.ensures.1
    (start-said c.args.form c.in_ok-start.start.items _ _ (Err (fault.File f)) (run_input c.args.day)
    c.in_ok-start.ensures.start.0 (unread_said c.args.day _ f c.in_err-bytes.ensures.bytes))

pub returns-clause-recorded : goal.returns-clause-recorded
returns-clause-recorded g c =
    start-said c.args.form c.in_ok-start.start.items _ _ c.record_input.result (run_input c.args.day)
    c.in_ok-start.ensures.start.0
    (known_said c.args.form c.args.day _ c.in_ok-bytes.bytes.items c.record_input.result c.in_ok-bytes.ensures.bytes
    (rw c.as_slice-2.ensures.value at c.record_input.ensures.recorded))
