-- What trades executed of orders, by their ids, as far as a number of 64 bits holds it.
use Rattle.std.specs.Prelude.{ℕ, ◌≤◌, min, Bool, List, All, slice_index}
use Rattle.auction_terms.specs.declared.OpenOrder.{OpenOrder}
use Rattle.auction_terms.specs.declared.Order.{Order}
use Rattle.auction_terms.specs.declared.Side.{Side}
use Rattle.auction_terms.specs.declared.Side.TheVariants.{Bid, Ask}
use Rattle.auction_terms.specs.declared.Trade.{Trade}
use Rattle.auction_terms.specs.Ladder.{tick_values}
use Rattle.auction_terms.specs.declared.Reply.{Reply}
use Rattle.auction_c.specs.declared.structs.AuctionOutcome.{AuctionOutcome}
use Rattle.auction_c.specs.Outcomes.{is_touched_with, outcome_with, shares_of}

-- no order has a greater id
abbrev pub AreNumberedUpTo : ℕ → List OpenOrder → Type 0
AreNumberedUpTo last orders = All (λ listed. listed.order.id ≤ last) orders

-- what trades executed of each order of a side, by its id from 0 on
abbrev pub shares_by_id : List Trade → Side → ℕ → List ℕ
shares_by_id trades side count = tick_values (shares_of trades side) 0 count

abbrev pub by_side : Side → List ℕ → List ℕ → List ℕ
by_side Bid bids asks = bids
by_side Ask bids asks = asks

-- the shares of the order that the tables have, of those that it had
abbrev pub filled_in : List ℕ → List ℕ → Order → ℕ
filled_in bids asks order = min order.quantity (slice_index (by_side order.side bids asks) order.id)

-- whether the uncross touched the order, and what it did to it, by the tables
abbrev pub is_touched_in : Reply → List ℕ → List ℕ → OpenOrder → Bool
is_touched_in reply bids asks listed = is_touched_with reply (filled_in bids asks listed.order) listed.order

abbrev pub outcome_in : Reply → List ℕ → List ℕ → OpenOrder → AuctionOutcome
outcome_in reply bids asks listed = outcome_with reply (filled_in bids asks listed.order) listed.order
