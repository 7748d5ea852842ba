-- Answers of `CommittedLines::close` (src/journal.rt): what the prover left open; rt looks here.
use Rattle.journal_file.specs.Committed.{committed}
use Rattle.journal_file.proofs.Chain.{chain-same}
use Rattle.journal_file.proofs.journal.CommittedLines.close.Goals as goal

pub returns-clause-session : goal.returns-clause-session
returns-clause-session g c since text before is whole earlier =
    chain-same g.D.Device.moment g.D.Device.left_since since c.args.self.now.device c.cut.new.self.device text before
    (committed (g.D.Device.seen c.args.self.now.device)) is whole earlier c.cut.ensures.any_moment
