-- Invariants of the loops of `copy_outcomes` (src/outcomes.rt); rt looks here.
use Rattle.std.proofs.Common.{◌≡◌, ◌++◌, map, take, drop}
use Rattle.auction_c.specs.Executed.{outcome_in}
use Rattle.auction_c.proofs.outcomes.copy_outcomes.Given as goal

abbrev pub invariant-loop-i : goal.invariant-loop-i
invariant-loop-i l =
    l.to ≡ map (outcome_in l.done.reply l.done.bids.items l.done.asks.items) (take l.i l.touched) ++ drop l.i l.fn.to
