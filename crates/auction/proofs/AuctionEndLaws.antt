-- The end of an auction.
use Rattle.std.proofs.Common.{◌≡◌, ℕ, ◌+◌, ◌≤◌, List, [], ◌∷◌, length, arith}
use Rattle.std.proofs.lemmas.List.FromFn.{length-enumerate_from}
use Rattle.std.proofs.lemmas.List.Sums.{count_by-le-length}
use Rattle.std.proofs.lemmas.Grind.{common_steps}
use Rattle.auction_terms.specs.declared.Order.{Order}
use Rattle.auction_terms.specs.declared.AuctionKind.{AuctionKind}
use Rattle.auction_terms.specs.declared.AuctionKind.TheVariants.{Intraday}
use Rattle.auction_terms.specs.declared.Side.{Side}
use Rattle.auction_terms.specs.declared.Side.TheVariants.{Bid, Ask}
use Rattle.auction_terms.specs.Book.{auction_orders}
use Rattle.auction_terms.specs.Edits.{without_restricted}
use Rattle.auction_terms.specs.Allotment.{PlacedOrder, placed_orders, eligible_orders, wholly_filled_count}
use Rattle.auction_terms.specs.Ladder.{LadderView}
use Rattle.auction_terms.proofs.NextLaws.{auction_orders-without_restricted}
use Rattle.auction.specs.LadderBook.{HasLadder}
use Rattle.auction.proofs.BookLengthLaws.{length-filter_le}

-- after an auction those count that count in the intraday auction
pub kept_staying : {low n : ℕ} {kind : AuctionKind} {new : List Order} {ladder : LadderView} (old : List Order)
    → HasLadder low n kind new ladder → new ≡ without_restricted kind old → HasLadder low n Intraday new ladder
kept_staying {low} {n} {kind} {new} {ladder} old is e = grind (arith, common_steps, auction_orders-without_restricted)

-- ---- no more trades than orders

one_side : (price : ℕ) (xs : List PlacedOrder)
    → length (eligible_orders Bid price xs) + length (eligible_orders Ask price xs) ≤ length xs
one_side price [] = omega arith
one_side price (x ∷ xs) = grind (arith, common_steps, (one_side price xs))

whole_le : (side : Side) (book : List Order) (price : ℕ)
    → wholly_filled_count side book price ≤ length (eligible_orders side price (placed_orders book))
unfolding wholly_filled_count
whole_le side book price = grind (arith, common_steps, count_by-le-length)

pub few_trades : (kind : AuctionKind) (book : List Order) (price count : ℕ)
    → count ≤ wholly_filled_count Bid (auction_orders book kind) price + wholly_filled_count Ask
    (auction_orders book kind) price → count ≤ length book
few_trades kind book price count h =
    grind (arith, common_steps, whole_le, one_side, length-enumerate_from, length-filter_le)
