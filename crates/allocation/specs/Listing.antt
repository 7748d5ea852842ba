-- The open orders of a side, as they are ranked.
use Rattle.std.specs.Prelude.{◌≡◌, Bool, ◌&&◌, List, map, filter}
use Rattle.std.specs.List.Sorted.{IsSortedByKey}
use Rattle.std.specs.Ordering.{nat_cmp}
use Rattle.auction_terms.specs.declared.Order.{Order}
use Rattle.auction_terms.specs.declared.Stamped.{Stamped}
use Rattle.auction_terms.specs.Book.{is_on}
use Rattle.auction_terms.specs.Priority.{is_by, orders_by, side_in_priority}
use Rattle.allocation.specs.declared.listing.RankedOrder.{RankedOrder}
use Rattle.allocation.specs.declared.listing.Listed.{Listed}
use Rattle.allocation.specs.Claim.{rank}

-- whether an order is one of those that are listed
abbrev pub is_listed : Listed → Stamped → Bool
is_listed listed s = is_by listed.member s.order && is_on listed.side s.order

abbrev pub ranked_order : Listed → Stamped → RankedOrder
ranked_order listed s = record { rank = rank listed.side s; order = s.order }

-- the orders of these that are listed
abbrev pub ranked_orders_of : Listed → List Stamped → List RankedOrder
ranked_orders_of listed line = map (ranked_order listed) (filter (is_listed listed) line)

-- by rank
abbrev pub AreByRank : List RankedOrder → Type 0
AreByRank ranked = IsSortedByKey (λ r. r.rank) nat_cmp ranked

-- they are the listed orders of the book, in priority
abbrev pub AreInPriority : Listed → List Order → List RankedOrder → Type 0
AreInPriority listed book ranked =
    map (λ r. r.order) ranked ≡ side_in_priority listed.side (orders_by listed.member book)
