-- Answers of `leaves_first_entries` (src/laws.rt): what the prover left open; rt looks here.
use Rattle.live_session.proofs.JournaledPromiseLaws.{are-whole, leaves-first}
use Rattle.live_session.proofs.laws.leaves_first_entries.Goals as goal

pub returns : goal.returns
returns c = record { whole = are-whole; first = leaves-first }
