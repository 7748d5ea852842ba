-- Answers of `record_input` (src/whole_input.rt): what the prover left open; rt looks here.
use Rattle.program_runs.proofs.ComingLaws.{entries-said}
use Rattle.program_runs.proofs.RecorderLaws.{no-journal}
use Rattle.program_runs.proofs.whole_input.record_input.Goals as goal

pub returns-in-Ok-clause-recorded : goal.returns-in-Ok-clause-recorded
returns-in-Ok-clause-recorded c =
    entries-said c.args.form c.args.day c.args.bytes.now c.in-Ok.entries c.record_calls.result c.in-Ok.ensures.day
    (rw c.day-day.ensures at c.record_calls.ensures.recorded)

pub returns-in-Err-clause-recorded : goal.returns-in-Err-clause-recorded
returns-in-Err-clause-recorded c =
    no-journal c.args.form c.args.day c.args.bytes.now c.in-Err.fault c.record_or_refuse.result c.in-Err.ensures.day
    c.in-Err.ensures.parsed c.record_or_refuse.ensures.recorded
