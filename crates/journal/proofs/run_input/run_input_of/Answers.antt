-- Answers of `run_input_of` (src/run_input.rt): what the prover left open; rt looks here.
use Rattle.journal.proofs.EntryLaws.{run_input-orders}
use Rattle.journal.proofs.EntryReadLaws.{entries-run}
use Rattle.journal.proofs.run_input.run_input_of.Goals as goal

pub returns-in-Ok-clause-answer : goal.returns-in-Ok-clause-answer
returns-in-Ok-clause-answer c =
    rw (entries-run c.args.day c.args.bytes.now c.in-Ok.entries c.in-Ok.ensures.day) at c.calls_of_entries.ensures.calls

pub returns-in-Err-clause-answer : goal.returns-in-Err-clause-answer
returns-in-Err-clause-answer c =
    run_input-orders _ _ _ _ c.in-Err.ensures.day c.in-Err.ensures.parsed c.or_orders.ensures.answer
