-- The tick of an auction price is a limit of the book, or the reference.
use Rattle.std.proofs.Common.{◌≡◌, ℕ, ◌+◌, ◌<◌, ◌≤◌, Bool, cond, List, [], ◌∷◌, Option, Some, None, IfSome, All, arith}
use Rattle.std.proofs.lemmas.List.Elements.{All-head, All-tail, All-filter}
use Rattle.std.proofs.lemmas.Grind.{common_steps}
use Rattle.auction_terms.specs.declared.Order.{Order}
use Rattle.auction_terms.specs.declared.Price.{Price}
use Rattle.auction_terms.specs.Book.{limits}
use Rattle.auction_terms.specs.AuctionPrice.{highest, lowest, is_best, best_limits, lower_end, upper_end, price_tick}
use Rattle.auction_terms.specs.AuctionPrice.{priced, price}
use Rattle.auction.specs.declared.book.known.KnownPrice.{KnownPrice}
use Rattle.auction.specs.KnownPrice.{IsPriceAt}

module _ (P : ℕ → Type 0) where
  highest_in : (ps : List ℕ) → All P ps → IfSome (highest ps) P
  highest_in [] all = tt
  highest_in (p ∷ ps) all = search (arith, All-tail, All-head, (highest_in ps (All-tail P p ps all)))

  lowest_in : (ps : List ℕ) → All P ps → IfSome (lowest ps) P
  lowest_in [] all = tt
  lowest_in (p ∷ ps) all = search (arith, All-tail, All-head, (lowest_in ps (All-tail P p ps all)))

  either_in : (b : Bool) (m n : Option ℕ) → IfSome m P → IfSome n P → IfSome (cond b m n) P
  either_in b m n hm hn = grind (arith, common_steps)

  best_in : (book : List Order) → All P (limits book) → All P (best_limits book)
  unfolding best_limits
  best_in book all = All-filter (is_best book) P (limits book) all

  lower_in : (book : List Order) → All P (limits book) → IfSome (lower_end book) P
  unfolding lower_end
  lower_in book all = search (arith, best_in, either_in, lowest_in, highest_in, All-filter)

  upper_in : (book : List Order) → All P (limits book) → IfSome (upper_end book) P
  unfolding upper_end
  upper_in book all = search (arith, best_in, either_in, highest_in, lowest_in, All-filter)

  tick_in : (book : List Order) (r : ℕ) → All P (limits book) → P r → IfSome (price_tick book r) P
  unfolding price_tick
  tick_in book r all hr = search (arith, best_in, either_in, highest_in, lowest_in, lower_in, upper_in)

  pub price_in : (book : List Order) (r : ℕ) (p : Price) → price book r ≡ Some p → All P (limits book) → P r → P p.tick
  unfolding price priced
  price_in book r p e all hr = grind (arith, common_steps, (tick_in book r all hr))

-- a price lies among the ticks that have the limits and the reference
pub price_among : (low n reference : ℕ) (book : List Order) (known : KnownPrice)
    → All (λ tick. (low ≤ tick) × (tick < low + n)) (limits book) → (low ≤ reference) × (reference < low + n)
    → IsPriceAt reference book known → IfSome known.price (λ (p : Price). (low ≤ p.tick) × (p.tick < low + n))
price_among low n reference book known all within is = by_option known.price is.found
  where
    by_option : (found : Option Price) → price book reference ≡ found
        → IfSome found (λ (p : Price). (low ≤ p.tick) × (p.tick < low + n))
    by_option None e = tt
    by_option (Some p) e = price_in (λ tick. (low ≤ tick) × (tick < low + n)) book reference p e all within
