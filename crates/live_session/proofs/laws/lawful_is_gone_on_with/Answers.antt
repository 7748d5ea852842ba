-- Answers of `lawful_is_gone_on_with` (src/laws.rt): what the prover left open; rt looks here.
use Rattle.live_session.proofs.JournaledPromiseLaws.{is-gone-on}
use Rattle.live_session.proofs.laws.lawful_is_gone_on_with.Goals as goal

pub returns : goal.returns
returns c = is-gone-on
