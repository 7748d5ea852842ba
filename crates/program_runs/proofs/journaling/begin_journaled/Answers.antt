-- Answers of `begin_journaled` (src/journaling.rt): what the prover left open; rt looks here.
use Rattle.program_runs.specs.JournaledLive.{files_of}
use Rattle.program_runs.proofs.JournaledLiveLaws.{begun-for, refused-on}
use Rattle.program_runs.proofs.LiveLaws.{opened-well}
use Rattle.program_runs.proofs.journaling.begin_journaled.Goals as goal

pub returns-in-Ok-open-clause-begun : goal.returns-in-Ok-open-clause-begun
returns-in-Ok-open-clause-begun g c =
    begun-for
    (files_of g.D.Device (g.P.OpensJournal.Opens c.args.files) (g.P.OpensJournal.CannotOpen c.args.files)
    c.begin_on.new.left) c.args.file c.args.day c.begin_on.result c.in-Ok-open.opened.device
    (opened-well _ _ c.in-Ok.ensures.refused) c.in-Ok-open.ensures.opened c.begin_on.ensures.begun

pub returns-in-Ok-open-clause-reason : goal.returns-in-Ok-open-clause-reason
returns-in-Ok-open-clause-reason g c =
    refused-on
    (files_of g.D.Device (g.P.OpensJournal.Opens c.args.files) (g.P.OpensJournal.CannotOpen c.args.files)
    c.begin_on.new.left) c.args.file c.args.day c.begin_on.result c.in-Ok-open.opened.device
    (opened-well _ _ c.in-Ok.ensures.refused) c.in-Ok-open.ensures.opened c.begin_on.ensures.refused

pub returns-in-Err-open-clause-reason : goal.returns-in-Err-open-clause-reason
returns-in-Err-open-clause-reason g c = (opened-well _ _ c.in-Ok.ensures.refused, c.in-Err-open.ensures.fault)
