-- Answers of `record_calls` (src/whole_input.rt): what the prover left open; rt looks here.
use Rattle.std.proofs.Common.{◌∙◌, []}
use Rattle.program_runs.proofs.ComingLaws.{coming-fails, coming-recorded}
use Rattle.program_runs.proofs.FileSaidLaws.{closed-read}
use Rattle.program_runs.proofs.whole_input.record_calls.Goals as goal

pub returns-in-Err-clause-recorded : goal.returns-in-Err-clause-recorded
returns-in-Err-clause-recorded g c = c.refused.ensures.recorded c.args.form

pub returns-in-Ok-hear_all-clause-recorded : goal.returns-in-Ok-hear_all-clause-recorded
returns-in-Ok-hear_all-clause-recorded g c =
    coming-recorded c.args.form c.args.day c.hear_all.new.listener c.in-Ok.open_day.auction c.hear_all.new.auction _
    c.close_day.result c.in-Ok.ensures.opened (c.in-Ok-hear_all.ensures.same ∙ c.in-Ok.ensures.form)
    c.in-Ok.ensures.opens c.in-Ok-hear_all.ensures.room
    (c.in-Ok-hear_all.ensures.heard [] c.in-Ok.ensures.none) c.close_day.ensures

pub returns-in-Ok-hear_all-clause-read : goal.returns-in-Ok-hear_all-clause-read
returns-in-Ok-hear_all-clause-read g c = λ e.
    let (rs, is, came, holds) = c.in-Ok-hear_all.ensures.heard [] c.in-Ok.ensures.none in
    closed-read c.args.day c.hear_all.new.listener _ _ c.close_day.result (c.close_day.ensures _ holds) e

pub returns-in-Err-hear_all-clause-recorded : goal.returns-in-Err-hear_all-clause-recorded
returns-in-Err-hear_all-clause-recorded g c =
    coming-fails c.args.form c.args.day _ c.in-Err-hear_all.fault
    (c.in-Err-hear_all.ensures.heard [] c.in-Ok.ensures.none)
