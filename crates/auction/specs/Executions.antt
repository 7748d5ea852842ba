-- What the trades of the day executed, by the ids of the orders.
use Rattle.std.specs.Prelude.{ℕ, ◌+◌, ◌≤◌, List, All, slice_index}
use Rattle.auction_terms.specs.declared.limits.TheConstants.{MAX_QUANTITY}
use Rattle.auction_terms.specs.declared.OpenOrder.{OpenOrder}
use Rattle.auction_terms.specs.declared.Side.{Side}
use Rattle.auction_terms.specs.declared.Trade.{Trade}
use Rattle.auction_terms.specs.Day.{visible_of}
use Rattle.auction_terms.specs.Ladder.{tick_values}
use Rattle.auction_terms.specs.Priority.{executed_of}
use Rattle.allocation.specs.declared.listing.RankedOrder.{RankedOrder}

-- no trade is larger than an order may be
abbrev pub AreSmall : List Trade → Type 0
AreSmall trades = All (λ trade. trade.quantity ≤ MAX_QUANTITY) trades

-- what was executed of each order of a side, by its id, from 0 to the last one
abbrev pub executed_by_id : List Trade → Side → ℕ → List ℕ
executed_by_id tape side last = tick_values (executed_of tape side) 0 (last + 1)

-- none has a greater id
abbrev pub HaveIdsUpTo : ℕ → List RankedOrder → Type 0
HaveIdsUpTo last ranked = All (λ r. r.order.id ≤ last) ranked

-- an order, with what is written under its id
abbrev pub with_executed : List ℕ → RankedOrder → OpenOrder
with_executed executed ranked = record {
  order = ranked.order;
  visible = visible_of ranked.order;
  filled = slice_index executed ranked.order.id;
}
