-- Answers of `spot_behind` (src/line.rt): what the prover left open; rt looks here.
-- Of `spot_behind`: one more byte, in the form that `rt` wants.
use Rattle.std.proofs.Common.{sym, ◌∙◌}
use Rattle.live_session.proofs.InputLineLaws.{state-end, state-next}
use Rattle.live_session.proofs.line.spot_behind.Goals as goal

pub loop-byte-preserved : goal.loop-byte-preserved
loop-byte-preserved c =
    sym (state-next _ _ _ _ _ c.loop-byte-test.true c.after-spot.ensures) ∙ c.loop-byte.invariant

pub returns : goal.returns
returns c = sym (state-end _ _ _ c.loop-byte-test.false) ∙ c.loop-byte.invariant
