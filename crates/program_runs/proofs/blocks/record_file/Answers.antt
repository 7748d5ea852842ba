-- Answers of `record_file` (src/blocks.rt): what the prover left open; rt looks here.
use Rattle.std.proofs.Common.{◌∙◌}
use Rattle.journal.specs.DayWithCalls.{orders_for}
use Rattle.program_runs.proofs.FileSaidLaws.{blocks-failed, blocks-recorded, said-memory}
use Rattle.program_runs.proofs.RecorderLaws.{opened_so}
use Rattle.program_runs.proofs.blocks.record_file.Goals as goal

pub returns-in_default-clause-recorded : goal.returns-in_default-clause-recorded
returns-in_default-clause-recorded g c = said-memory c.args.form _ (orders_for c.args.day)

pub record_text-requires-clause-opened : goal.record_text-requires-clause-opened
record_text-requires-clause-opened g c = opened_so _ _ c.in-Ok.ensures.opened

pub returns-in_err-record_text-clause-recorded : goal.returns-in_err-record_text-clause-recorded
returns-in_err-record_text-clause-recorded g c =
    blocks-failed c.args.form c.args.day c.record_text.new.recorder _ c.record_text.new.auction _
    c.in_err-record_text.field-0.0
    c.from_residual.result c.in-Ok.ensures.opened c.from_residual.ensures.1 c.in_err-record_text.ensures.recorded

pub returns-clause-recorded : goal.returns-clause-recorded
returns-clause-recorded g c =
    blocks-recorded c.args.form c.args.day c.record_text.new.recorder _ c.record_text.new.auction _ c.close_day.result
    c.in-Ok.ensures.opened (c.in_ok-record_text.ensures.form ∙ c.in-Ok.ensures.form) c.requires.opens
    c.in_ok-record_text.ensures.room c.in_ok-record_text.ensures.recorded c.close_day.ensures
