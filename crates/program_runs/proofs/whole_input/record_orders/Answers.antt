-- Answers of `record_orders` (src/whole_input.rt): what the prover left open; rt looks here.
use Rattle.std.proofs.Common.{◌∙◌, ap, arith, subst, sym, Result}
use Rattle.journal.specs.DayWithCalls.{DayWithCalls}
use Rattle.order_file.specs.declared.fault.FileFault.{FileFault}
use Rattle.program_runs.specs.RecordedEntries.{RecordsDay, calls_for}
use Rattle.program_runs.proofs.ComingLaws.{coming-orders}
use Rattle.program_runs.proofs.RecorderLaws.{orders-long, orders-short}
use Rattle.program_runs.proofs.whole_input.record_orders.Goals as goal

pub returns-then-bytes-gt-MAX_BYTES-clause-recorded : goal.returns-then-bytes-gt-MAX_BYTES-clause-recorded
returns-then-bytes-gt-MAX_BYTES-clause-recorded c =
    orders-long c.args.day c.args.bytes.now (omega (arith, c.if-bytes-gt-MAX_BYTES.true))

pub returns-clause-recorded : goal.returns-clause-recorded
returns-clause-recorded c =
    let short = orders-short c.args.day c.args.bytes.now (omega (arith, c.if-bytes-gt-MAX_BYTES.false)) in
    subst (λ (said : Result DayWithCalls FileFault). RecordsDay c.args.form said c.record_calls.result)
    (coming-orders c.args.day _ ∙ ap (calls_for c.args.day) c.in_ok-calls.ensures.calls ∙ sym short)
    c.record_calls.ensures.recorded
