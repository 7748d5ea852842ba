-- Answers of `recover` (src/journal.rt): what the prover left open; rt looks here.
use Rattle.journal_file.specs.Committed.{committed}
use Rattle.journal_file.proofs.Chain.{chain-same}
use Rattle.journal_file.proofs.journal.recover.Goals as goal

pub returns-clause-session : goal.returns-clause-session
returns-clause-session g c stored since text before is whole earlier =
    chain-same g.D.Device.moment g.D.Device.left_since since c.args.device.now c.repair.new.device text before
    (committed (g.D.Device.seen c.args.device.now)) is whole earlier (c.repair.ensures.any_moment stored)
