-- Invariants of the loops of `spot_behind` (src/line.rt); rt looks here.
-- Of `spot_behind`: what its loop keeps, in the form that `rt` wants.
use Rattle.std.proofs.Common.{◌≡◌, drop}
use Rattle.csv.specs.declared.parser.State.TheVariants as st
use Rattle.live_session.specs.InputLines.{line_state_after}
use Rattle.order_file.specs.Spot.{state_of}
use Rattle.live_session.proofs.line.spot_behind.Given as goal

-- from the spot so far the bytes that are left lead where all of them lead
abbrev pub invariant-loop-byte : goal.invariant-loop-byte
invariant-loop-byte l = line_state_after (state_of l.spot) (drop l.byte-index l.text)
    ≡ line_state_after st.StartRecord l.text
