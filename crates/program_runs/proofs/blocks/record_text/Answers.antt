-- Answers of `record_text` (src/blocks.rt): what the prover left open; rt looks here.
use Rattle.order_file.proofs.BlockCallLaws.{fails-file}
use Rattle.program_runs.proofs.FileSaidLaws.{blocks-stop}
use Rattle.program_runs.proofs.blocks.record_text.Goals as goal

pub returns-in_err-blocks-clause-recorded : goal.returns-in_err-blocks-clause-recorded
returns-in_err-blocks-clause-recorded g c =
    blocks-stop c.args.recorder.now c.args.auction.now c.args.auction.now c.from_residual.result
    c.in_err-blocks.field-0.0 _ c.args.members c.from_residual.ensures.1
    (fails-file _ _ _ _ (rw c.as_slice.ensures.value at c.in_err-blocks.ensures.rows))

pub returns-clause-recorded : goal.returns-clause-recorded
returns-clause-recorded g c =
    c.record_blocks.ensures.recorded _ (rw c.as_slice.ensures.value at c.in_ok-blocks.ensures.rows)
