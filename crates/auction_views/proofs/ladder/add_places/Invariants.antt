-- Invariants of the loops of `add_places` (src/ladder.rt); rt looks here.
use Rattle.std.proofs.Common.{◌≡◌, ◌≤◌, ◌++◌, length}
use Rattle.auction_views.specs.LadderRows.{ladder_rows_below}
use Rattle.auction_views.proofs.ladder.add_places.Given as goal

-- the rows so far, and those below, are all
abbrev pub invariant-places : goal.invariant-places
invariant-places l = (l.place ≤ length l.ladder.bids)
    × (l.rows.items ++ ladder_rows_below l.ladder l.place ≡ l.fn.rows.items ++ ladder_rows_below l.ladder (length
    l.ladder.bids))

abbrev pub decreases-places : goal.decreases-places
decreases-places l = l.place
