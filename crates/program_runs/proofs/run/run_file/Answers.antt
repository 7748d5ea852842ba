-- Answers of `run_file` (src/run.rt): what the prover left open; rt looks here.
use Rattle.program_runs.proofs.RecorderLaws.{recorded-said}
use Rattle.program_runs.proofs.run.run_file.Goals as goal

pub write_run-requires : goal.write_run-requires
write_run-requires g c = recorded-said c.args.form _ _ _ c.record_run-run.ensures.recorded

pub returns : goal.returns
returns g c =
    c.write_run.ensures c.args.day c.args.form _ _ _ _ c.record_run-run.ensures.recorded c.record_run-run.ensures.failed
