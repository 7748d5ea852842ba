-- Answers of `FirstUnlawful::new` (src/looking.rt): what the prover left open; rt looks here.
use Rattle.std.proofs.Common.{refl, sym}
use Rattle.live_session.specs.Looked.{first_unlawful}
use Rattle.live_session.proofs.looking.FirstUnlawful.new.Goals as goal

pub returns : goal.returns
unfolding first_unlawful
returns c = λ auction none. (refl, sym none)
