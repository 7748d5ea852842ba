-- Answers of `CommittedLines::commit` (src/journal.rt): what the prover left open; rt looks here.
use Rattle.journal_file.specs.Committed.{committed}
use Rattle.journal_file.proofs.Chain.{chain}
use Rattle.journal_file.proofs.journal.CommittedLines.commit.Goals as goal

pub returns-clause-session : goal.returns-clause-session
returns-clause-session g c since text before is whole earlier =
    chain g.D.Device.moment g.D.Device.left_since since c.args.self.now.device c.add.new.self.device text before
    c.args.lines.now (committed (g.D.Device.seen c.args.self.now.device)) is whole earlier c.add.ensures.any_moment
