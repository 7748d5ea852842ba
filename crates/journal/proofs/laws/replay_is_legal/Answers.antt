-- Answers of `replay_is_legal` (src/laws.rt): what the prover left open; rt looks here.
use Rattle.journal.proofs.ReplayTextLaws.{replay-legal}
use Rattle.journal.proofs.laws.replay_is_legal.Goals as goal

pub returns : goal.returns
returns c = replay-legal
