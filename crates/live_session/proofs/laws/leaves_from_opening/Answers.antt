-- Answers of `leaves_from_opening` (src/laws.rt): what the prover left open; rt looks here.
use Rattle.live_session.proofs.FromOpeningLaws.{from-opening}
use Rattle.live_session.proofs.laws.leaves_from_opening.Goals as goal

pub returns : goal.returns
returns g c = from-opening g.D.Device
