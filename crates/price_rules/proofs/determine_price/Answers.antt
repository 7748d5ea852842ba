-- Answers of `determine_price` (src/lib.rt): what the prover left open; rt looks here.
use Rattle.std.proofs.Common.{◌≡◌, ◌+◌, List, length, refl, subst}
use Rattle.auction_terms.proofs.AuctionPriceLaws.{most_of}
use Rattle.auction_terms.specs.declared.Order.{Order}
use Rattle.auction_terms.specs.AuctionPrice.{price}
use Rattle.auction_terms.specs.Ladder.{ladder_of}
use Rattle.tick_ladder.specs.TickLadder.{IsLadderOf}
use Rattle.price_rules.specs.Decision.{IsNear, IsSameWithin, to_place}
use Rattle.price_rules.proofs.CurveLaws.{curves-of_ladder}
use Rattle.price_rules.proofs.DecidingLaws.{over_ladder, over_flags, over_near}
use Rattle.price_rules.proofs.PriceTermsLaws.{volume_and_surplus, balanced_between_ends}
use Rattle.price_rules.proofs.determine_price.Goals as goal

pub returns-clause-deciding : goal.returns-clause-deciding
returns-clause-deciding c book other h over same =
    let v = c.args.ladder.now in
    let a = c.look_around-around.result in
    let n = length v.bids in
    let is = c.look_around-around.ensures in
    let within =
    subst (λ from. IsSameWithin from (v.low + to_place n a.after) book other) c.lowest_deciding.ensures
    (subst (λ to. IsSameWithin c.lowest_deciding.result to book other) c.highest_deciding.ensures same) in
    c.price_around.ensures (ladder_of v.low n other) book other h (over_ladder v.low n other over)
    (over_flags v.low n other over) (over_near v a book other is.value h (curves-of_ladder v book h is.sound.flags)
    within)

priced_alike : (c : goal.After-highest_deciding) (book : List Order) → IsLadderOf c.args.ladder.now book
    → c.price_around.result ≡ price book c.args.reference
priced_alike c book h =
    let v = c.args.ladder.now in
    let near : IsNear v c.look_around-around.result v = record {
      low = refl;
      long = refl;
      above = λ k from to. refl;
      below = λ k to. refl;
    } in
    c.price_around.ensures v book book h h c.look_around-around.ensures.sound.flags near

pub returns-clause-most : goal.returns-clause-most
returns-clause-most c book h = most_of book c.args.reference c.price_around.result (priced_alike c book h)

pub returns-clause-terms : goal.returns-clause-terms
returns-clause-terms c book h =
    volume_and_surplus book c.args.reference c.price_around.result (priced_alike c book h)

pub returns-clause-balanced : goal.returns-clause-balanced
returns-clause-balanced c book h =
    balanced_between_ends book c.args.reference c.price_around.result (priced_alike c book h)
