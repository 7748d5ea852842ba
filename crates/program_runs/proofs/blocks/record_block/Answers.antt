-- Answers of `record_block` (src/blocks.rt): what the prover left open; rt looks here.
use Rattle.program_runs.proofs.blocks.record_block.Goals as goal

pub returns-clause-heard : goal.returns-clause-heard
returns-clause-heard c = λ before holds.
    rw (c.in_ok-calls.ensures.calls, c.config-max_calls.ensures, c.calls.ensures.value)
    at (c.hear_all.ensures.heard before holds)
