-- The rows of a ladder are those of its book.
use Rattle.std.proofs.Common.{◌≡◌, ◌∙◌, ◌+◌, ◌-◌, ◌<◌, ◌≤◌, ℕ, zero, suc, Bool, true, false, cond, eqb, List, [], ◌∷◌}
use Rattle.std.proofs.Common.{◌++◌, map, filter, length, append_assoc, ap, refl, sym, arith}
use Rattle.std.proofs.lemmas.List.{append-nil}
use Rattle.auction_terms.specs.declared.Config.{Config}
use Rattle.auction_terms.specs.declared.Order.{Order}
use Rattle.auction_terms.specs.declared.Side.TheVariants.{Bid, Ask}
use Rattle.auction_terms.specs.Ladder.{LadderView, ladder_of, limit_flag, quantity_at}
use Rattle.auction_terms.proofs.LadderLaws.{at_spread, length-tick_values}
use Rattle.auction.specs.AuctionState.{ladder_over}
use Rattle.auction_views.specs.declared.row.LadderRow.{LadderRow}
use Rattle.tick_ladder.specs.FallingTicks.{falling_ticks}
use Rattle.auction_views.specs.LadderRows.{has_orders_at, ladder_rows, limit_row, limit_rows, market_rows_in}
use Rattle.auction_views.specs.LadderRows.{rows_at, ladder_rows_below}

-- ---- place by place

-- the row of the next place comes first of those below
pub place-next : (view : LadderView) (now after all : List LadderRow) (place next : ℕ) → place ≡ next + 1
    → now ++ ladder_rows_below view place ≡ all → after ≡ now ++ rows_at view next
    → after ++ ladder_rows_below view next ≡ all
unfolding ladder_rows_below
place-next view now after all place next is e put =
    let to : place ≡ suc next = omega arith in
    ap (λ rows. rows ++ ladder_rows_below view next) put ∙ append_assoc now (rows_at view next) (ladder_rows_below
    view next)
    ∙ rw to at e

pub place-end : (view : LadderView) (now all : List LadderRow) (place : ℕ) → place ≡ 0
    → now ++ ladder_rows_below view place ≡ all → now ≡ all
unfolding ladder_rows_below
place-end view now all place none e = sym (append-nil now) ∙ rw none at e

-- ---- what they are

-- a row where the flag is set
place-flagged : (b : Bool) (row : LadderRow) → cond (eqb (cond b 1 0) 1) (row ∷ []) [] ≡ cond b (row ∷ []) []
place-flagged true row = refl
place-flagged false row = refl

place-there : (low n : ℕ) (book : List Order) (place : ℕ) → place < n
    → rows_at (ladder_of low n book) place ≡ cond (has_orders_at book (low + place)) (limit_row book (low + place) ∷
    []) []
unfolding ladder_of
place-there low n book place within =
    rw (
      at_spread (limit_flag book) low n place within,
      at_spread (quantity_at Bid book) low n place within,
      at_spread (quantity_at Ask book) low n place within,
    ) (place-flagged (has_orders_at book (low + place)) (limit_row book (low + place)))

limit-next : (book : List Order) (tick : ℕ) (ticks : List ℕ) (b : Bool)
    → cond b (limit_row book tick ∷ []) [] ++ map (limit_row book) (filter (has_orders_at book) ticks)
    ≡ map (limit_row book) (cond b (tick ∷ filter (has_orders_at book) ticks) (filter (has_orders_at book) ticks))
limit-next book tick ticks true = refl
limit-next book tick ticks false = refl

pub places-below : (low n : ℕ) (book : List Order) (place : ℕ) → place ≤ n
    → ladder_rows_below (ladder_of low n book) place ≡ limit_rows book low place
unfolding ladder_rows_below
places-below low n book zero within = refl
places-below low n book (suc place) within =
    rw (place-there low n book place (omega arith), places-below low n book place (omega arith))
    (limit-next book (low + place) (falling_ticks low place) (has_orders_at book (low + place)))

-- the rows of the market orders, and then those of all places of the ladder
pub rows_of_ladder : (config : Config) (book : List Order) (view : LadderView) (none market all : List LadderRow)
    → none ≡ [] → view ≡ ladder_over config book → market ≡ none ++ market_rows_in view
    → all ≡ market ++ ladder_rows_below view (length view.bids) → all ≡ ladder_rows config book
unfolding ladder_rows ladder_of
rows_of_ladder config book view none market all empty is first rest =
    let n = config.high + 1 - config.low in
    rw (
      rest,
      first,
      empty,
      is,
      length-tick_values (quantity_at Bid book) config.low n,
      places-below config.low n book n (omega arith),
    ) refl
