-- What is known of a price, while orders come and go.
use Rattle.std.specs.Prelude.{◌≡◌, ℕ, nat_lt, Bool, false, not, ◌&&◌, if◌then◌else◌, List, length}
use Rattle.std.specs.Prelude.{Option, Some, None, IfSome}
use Rattle.auction_terms.specs.declared.Display.{Display}
use Rattle.auction_terms.specs.declared.Display.TheVariants.{Priced, Unpriced}
use Rattle.auction_terms.specs.declared.Order.{Order}
use Rattle.auction_terms.specs.declared.AuctionKind.{AuctionKind}
use Rattle.auction_terms.specs.declared.Price.{Price}
use Rattle.auction_terms.specs.declared.Side.{Side}
use Rattle.auction_terms.specs.declared.Side.TheVariants.{Bid, Ask}
use Rattle.auction_terms.specs.declared.Limit.{Limit}
use Rattle.auction_terms.specs.declared.Limit.TheVariants.{Market, At}
use Rattle.auction_terms.specs.Book.{participates_in}
use Rattle.auction_terms.specs.Day.{display_of}
use Rattle.auction_terms.specs.Ladder.{LadderView}
use Rattle.auction_terms.specs.AuctionPrice.{price}
use Rattle.tick_ladder.specs.TickLadder.{IsLadderOf}
use Rattle.price_rules.specs.Decision.{IsBookOver, IsSameWithin}
use Rattle.auction.specs.OpenOrders.{OpenOrders, counted_orders}
use Rattle.auction.specs.declared.book.known.KnownPrice.{KnownPrice}

-- a bid below the lowest tick that decides, an ask above the highest
abbrev pub is_beyond : KnownPrice → Side → Limit → Bool
is_beyond known Bid Market = false
is_beyond known Bid (At tick) = nat_lt tick known.lowest
is_beyond known Ask Market = false
is_beyond known Ask (At tick) = nat_lt known.highest tick

-- what is still known where this order came or went
abbrev pub still_known : Option KnownPrice → AuctionKind → Order → Option KnownPrice
still_known None kind order = None
still_known (Some known) kind order =
    if participates_in kind order && not (is_beyond known order.side order.limit) then None else Some known

-- what is shown: the price, or the best limits where there is none
abbrev pub display_known : Option Price → Option ℕ → Option ℕ → Display
display_known (Some price) best_bid best_ask = Priced price
display_known None best_bid best_ask = Unpriced best_bid best_ask

-- it is the price of the book at the reference, and the book is displayed so
pub record IsPriceAt (reference : ℕ) (book : List Order) (known : KnownPrice) : Type 0 where
  pub of : known.reference ≡ reference
  pub found : price book reference ≡ known.price
  pub displayed : display_of book known.price ≡ display_known known.price known.best_bid known.best_ask

-- so is each book over the n ticks from low on that is the same where it decides
abbrev pub IsKnown : ℕ → ℕ → List Order → KnownPrice → Type 0
IsKnown low n book known =
    (other : List Order) → IsBookOver low n other → IsSameWithin known.lowest known.highest book other
    → IsPriceAt known.reference other known

-- whatever the orders are whose ladder this is
abbrev pub IsKnownIn : LadderView → KnownPrice → Type 0
IsKnownIn ladder known =
    (book : List Order) → IsLadderOf ladder book → IsBookOver ladder.low (length ladder.bids) book
    → IsKnown ladder.low (length ladder.bids) book known

abbrev pub IsKnownOf : OpenOrders → KnownPrice → Type 0
IsKnownOf book known = IsKnown book.low book.ticks (counted_orders book) known

-- ---- what is forgotten

-- the price, if an order decides it that came or went
abbrev pub known_after : Order → AuctionKind → Option KnownPrice → Option KnownPrice
known_after order kind known = still_known known kind order

abbrev pub known_after_both : Order → Order → AuctionKind → Option KnownPrice → Option KnownPrice
known_after_both order other kind known = still_known (still_known known kind order) kind other

-- what isn't forgotten of a price that was known is known after the edit too
abbrev pub KeepsKnown : (AuctionKind → Option KnownPrice → Option KnownPrice) → OpenOrders → OpenOrders → Type 0
KeepsKnown left old new =
    (known : Option KnownPrice) → IfSome known (IsKnownOf old) → IfSome (left old.kind known) (IsKnownOf new)
