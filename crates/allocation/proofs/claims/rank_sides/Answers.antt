-- Answers of `rank_sides` (src/claims.rt): what the prover left open; rt looks here.
use Rattle.std.proofs.Common.{◌≡◌, ℕ, subst, sym, arith, length-append}
use Rattle.std.proofs.lemmas.Grind.{common_steps}
use Rattle.auction_terms.specs.declared.AuctionKind.{AuctionKind}
use Rattle.auction_terms.specs.declared.Side.{Side}
use Rattle.auction_terms.specs.declared.Side.TheVariants.{Bid, Ask}
use Rattle.order_book.specs.Orders.{PassesAllOrders}
use Rattle.order_book.proofs.WalkLaws.{present_more, present_few, length-walk}
use Rattle.allocation.specs.declared.claims.Claimants.{Claimants}
use Rattle.allocation.proofs.ClaimLaws.{claims_more, narrow_more, claims-ranked}
use Rattle.allocation.proofs.claims.rank_sides.Goals as goal

abbrev claimants : Side → AuctionKind → ℕ → Claimants
claimants side kind price = record { side = side; kind = kind; price = price }

pub consider_side-requires-clause-bids_room : goal.consider_side-requires-clause-bids_room
consider_side-requires-clause-bids_room c =
    grind (arith, common_steps, present_more, length-append, present_few, length-walk)

pub consider_side-requires-clause-asks_room : goal.consider_side-requires-clause-asks_room
consider_side-requires-clause-asks_room c =
    grind (arith, common_steps, present_more, length-append, present_few, length-walk)

pub loop-place-preserved : goal.loop-place-preserved
loop-place-preserved c = grind (arith, common_steps, present_more, length-append, claims_more, narrow_more)

pub returns-clause-bids : goal.returns-clause-bids
returns-clause-bids c =
    let ended : c.loop-place.place ≡ c.places-place-end.result = omega arith in
    claims-ranked (claimants Bid c.args.kind c.args.price) c.args.orders.now c.loop-place.place
    c.loop-place.bids.items _
    (subst (λ n. PassesAllOrders n c.args.orders.now) (sym ended) c.places-place-end.ensures)
    c.loop-place.invariant.bids c.loop-place.invariant.narrow c.put_in_order.ensures.permutation
    c.put_in_order.ensures.in_order

pub returns-clause-asks : goal.returns-clause-asks
returns-clause-asks c =
    let ended : c.loop-place.place ≡ c.places-place-end.result = omega arith in
    claims-ranked (claimants Ask c.args.kind c.args.price) c.args.orders.now c.loop-place.place
    c.loop-place.asks.items _
    (subst (λ n. PassesAllOrders n c.args.orders.now) (sym ended) c.places-place-end.ensures)
    c.loop-place.invariant.asks c.loop-place.invariant.narrow c.put_in_order-2.ensures.permutation
    c.put_in_order-2.ensures.in_order
