-- Answers of `add_places` (src/ladder.rt): what the prover left open; rt looks here.
use Rattle.std.proofs.Common.{arith}
use Rattle.auction_views.proofs.LadderRowLaws.{place-end, place-next}
use Rattle.auction_views.proofs.ladder.add_places.Goals as goal

pub places-preserved : goal.places-preserved
places-preserved c =
    let inv = c.places.invariant in
    (omega (arith, inv.0), place-next _ _ _ _ _ _ (omega arith) inv.1 c.in_ok-add_place.ensures)

pub returns : goal.returns
returns c = let inv = c.places.invariant in place-end _ _ _ _ (omega arith) inv.1
