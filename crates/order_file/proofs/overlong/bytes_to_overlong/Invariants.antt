-- Invariants of the loop of `bytes_to_overlong` (src/overlong.rt); rt looks here.
use Rattle.std.proofs.Common.{◌≡◌, ◌+◌, drop}
use Rattle.csv.specs.declared.parser.State.TheVariants as st
use Rattle.order_file.specs.Overlong.{bytes_to_overlong}
use Rattle.order_file.specs.Spot.{state_of}
use Rattle.order_file.proofs.overlong.bytes_to_overlong.Given as goal

-- the bytes that were passed, and those that are left up to an overlong record, are all up to it
abbrev pub invariant-loop-at : goal.invariant-loop-at
invariant-loop-at l = bytes_to_overlong st.StartRecord 0 l.text
    ≡ l.at + bytes_to_overlong (state_of l.spot) l.fields (drop l.at l.text)
