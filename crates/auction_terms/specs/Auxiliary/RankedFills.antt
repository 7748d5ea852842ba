-- The same fills and trades, as they come out going down the ranks.
use Rattle.std.specs.Prelude.{ℕ, ◌-◌, min, List, [], ◌∷◌, filter, nat_eq, if◌then◌else◌}
use Rattle.auction_terms.specs.declared.Side.{Side}
use Rattle.auction_terms.specs.declared.Order.{Order}
use Rattle.auction_terms.specs.declared.Fill.{Fill}
use Rattle.auction_terms.specs.declared.Trade.{Trade}
use Rattle.auction_terms.specs.Auxiliary.Sort.{in_order}
use Rattle.auction_terms.specs.Book.{is_eligible_on}
use Rattle.auction_terms.specs.Allotment.{by_limit, spans, pairings}

-- the eligible orders of a side, in rank order; this takes no places
unfoldable pub ranked_orders : Side → ℕ → List Order → List Order
ranked_orders side price book = in_order (by_limit side) (filter (is_eligible_on side price) book)

-- what an order asks for
abbrev pub requested_fill : Order → Fill
requested_fill x = record { id = x.id; quantity = x.quantity }

-- going down a list of what is asked for, each gets what is left
abbrev pub allot : ℕ → List Fill → List Fill
allot left [] = []
allot left (f ∷ fs) = record { id = f.id; quantity = min left f.quantity } ∷ allot (left - f.quantity) fs

-- what is left of a fill when `taken` of it has been traded
abbrev pub less : Fill → ℕ → Fill
less f taken = record { id = f.id; quantity = f.quantity - taken }

-- the trades of two lists of fills that begin at the same place
unfoldable pub paired_trades : ℕ → ℕ → List Fill → List Fill → List Trade
paired_trades price s bids asks = pairings price (spans s bids) (spans s asks)

-- the fills that are left when `taken` of the first has been traded
abbrev pub after_taking : List Fill → ℕ → List Fill
after_taking [] taken = []
after_taking (f ∷ fs) taken = if nat_eq f.quantity taken then fs else (less f taken ∷ fs)

-- the same of orders, with what is made of each and of what it gets
abbrev pub allot_by : {Y : Type 0} → (ℕ → Order → Y) → ℕ → List Order → List Y
allot_by g left [] = []
allot_by g left (x ∷ xs) = g (min left x.quantity) x ∷ allot_by g (left - x.quantity) xs
