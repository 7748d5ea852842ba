-- Answers of `serve_journaled` (src/journaling.rt): what the prover left open; rt looks here.
use Rattle.std.proofs.Common.{Some, refl}
use Rattle.program_runs.specs.JournaledLive.{files_of}
use Rattle.program_runs.proofs.JournaledLiveLaws.{not-begun, ran-journaled}
use Rattle.program_runs.proofs.journaling.serve_journaled.Goals as goal

pub returns-in-Err : goal.returns-in-Err
returns-in-Err g c =
    not-begun _ _ _ _ g.R.Source g.O.Sink c.args.reader.now c.args.out.now c.in-Err.fault c.write_journaled_fault.result
    c.in-Err.ensures.reason c.write_journaled_fault.ensures

pub returns : goal.returns
returns g c =
    let begun = c.in-Ok.ensures.begun in
    let left = Some c.run_to_end-status.new.journal.device in
    ran-journaled
    (files_of g.D.Device (g.P.OpensJournal.Opens c.args.files) (g.P.OpensJournal.CannotOpen c.args.files) left)
    c.args.file c.args.day c.args.reserve g.R.Source g.O.Sink c.args.reader.now _ c.args.out.now _ c.in-Ok.begun.auction
    c.in-Ok.begun.journal c.run_to_end-status.new.journal c.run_to_end-status.result (record {
      opens = begun.opens;
      device = begun.device;
      cut = begun.cut;
      opened = begun.opened;
      begun = begun.begun;
    }) c.run_to_end-status.ensures refl
