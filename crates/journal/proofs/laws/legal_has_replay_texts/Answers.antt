-- Answers of `legal_has_replay_texts` (src/laws.rt): what the prover left open; rt looks here.
use Rattle.journal.proofs.ReplayTextLaws.{legal-has-replay-texts}
use Rattle.journal.proofs.laws.legal_has_replay_texts.Goals as goal

pub returns : goal.returns
returns c = legal-has-replay-texts
