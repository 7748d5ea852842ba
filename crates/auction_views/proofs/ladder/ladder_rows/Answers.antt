-- Answers of `ladder_rows` (src/ladder.rt): what the prover left open; rt looks here.
use Rattle.auction_views.proofs.LadderRowLaws.{rows_of_ladder}
use Rattle.auction_views.proofs.ladder.ladder_rows.Goals as goal

pub returns : goal.returns
returns c =
    rows_of_ladder _ _ _ _ _ _ c.new-rows.ensures.items c.ladder-ladder.ensures.value c.in_ok-add_market.ensures
    c.in_ok-add_places.ensures
