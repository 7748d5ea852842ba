-- Answers of `serve` (src/serving.rt): what the prover left open; rt looks here.
use Rattle.program_runs.specs.Served.{day_of_settings}
use Rattle.program_runs.proofs.ServedLaws.{does-journaled, serves-settings, serves-arguments}
use Rattle.program_runs.proofs.serving.serve.Goals as goal

pub returns-in-Err : goal.returns-in-Err
returns-in-Err g c = serves-arguments _ _ _ c.answer_arguments.result (c.answer_arguments.ensures _ _)

pub returns-in-Some : goal.returns-in-Some
returns-in-Some g c =
    serves-settings _ _ c.in-Ok.settings _ _ c.serve_journaled.result c.in-Ok.ensures.arguments c.in-Ok.ensures.ranges
    c.in-Live.is
    (does-journaled _ (day_of_settings c.in-Ok.settings) c.in-Ok.settings.journal c.in-Some.file c.in-Live.reserve _
    c.serve_journaled.result c.in-Some.is c.serve_journaled.ensures)
