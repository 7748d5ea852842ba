-- The closing orders, added one by one in the order of a walk.
use Rattle.std.proofs.Common.{◌≡◌, ℕ, zero, suc, ◌+◌, ◌≤◌, Bool, true, false, cond, not, List, [], ◌∷◌, ◌++◌, All}
use Rattle.std.proofs.Common.{Option, Some, None, IfSome, take, filter, sum_by, refl, sym, ap, ◌∙◌, arith, append_assoc}
use Rattle.std.proofs.lemmas.List.{append-nil}
use Rattle.std.proofs.lemmas.List.Elements.{All-append, All-nil, All-cons}
use Rattle.std.proofs.lemmas.List.Filters.{sum_by-filter_both}
use Rattle.std.proofs.lemmas.List.Sums.{sum_by-cons, sum_by-append}
use Rattle.std.specs.Option.{option_to_list}
use Rattle.std.proofs.lemmas.Grind.{common_steps}
use Rattle.auction_terms.specs.declared.limits.TheConstants.{MAX_TOTAL}
use Rattle.auction_terms.specs.declared.Order.{Order}
use Rattle.auction_terms.specs.declared.Stamped.{Stamped}
use Rattle.auction_terms.specs.declared.AuctionKind.TheVariants.{Intraday, Closing}
use Rattle.auction_terms.specs.Book.{is_restricted_to, participates_in, auction_orders}
use Rattle.auction_terms.specs.Auxiliary.StampedOrders.{orders_of, IsLineOf}
use Rattle.auction_terms.specs.Ladder.{LadderView, ladder_of, with_added, IsTickOf}
use Rattle.auction_terms.proofs.FillLaws.{sum_by-map}
use Rattle.auction_terms.proofs.RankLaws.{sum_by-filter, map-filter}
use Rattle.auction_terms.proofs.NextLaws.{sum-closing}
use Rattle.auction_terms.proofs.LadderSums.{ladder-same, ladder-more, more-push}
use Rattle.order_book.specs.Orders.{present, slot_at}
use Rattle.tick_ladder.specs.TickLadder.{total_quantity}
use Rattle.order_book.proofs.WalkLaws.{present_more}
use Rattle.auction.specs.LadderBook.{with_closing, HasLadder, FitsIn}
use Rattle.auction.proofs.LadderTotalLaws.{all_within}
use Rattle.auction.proofs.LadderBookLaws.{IsOpen, open_counted}

abbrev closes : Stamped → Bool
closes s = is_restricted_to Closing s.order.restriction

-- the orders for the closing auction alone
abbrev pub closing : List Stamped → List Order
closing walk = orders_of (filter closes walk)

-- the orders that are in the ladder when those of a part of the walk were added
abbrev pub admitted : List Order → List Stamped → List Order
admitted book walk = auction_orders book Intraday ++ closing walk

sum-closing_walk : (w : Order → ℕ) (walk : List Stamped)
    → sum_by w (closing walk) ≡ sum_by (λ s. cond (closes s) (w s.order) 0) walk
sum-closing_walk w walk =
    sum_by-map w (λ (s : Stamped). s.order) (filter closes walk)
    ∙ sum_by-filter (λ (s : Stamped). w s.order) closes walk

sum_all : (w : Order → ℕ) (walk line : List Stamped) → IsLineOf walk line → sum_by w (admitted (orders_of line) walk)
    ≡ sum_by w (auction_orders (orders_of line) Closing)
sum_all w walk line is = search (arith, sum_by-append, sum-closing, map-filter, sum_by-map, sum_by-filter)

-- ---- one place more

pub walk_more : (slots : List (Option Stamped)) (i : ℕ) (found : Option Stamped) → found ≡ slot_at slots i
    → present (take (i + 1) slots) ≡ present (take i slots) ++ option_to_list found
walk_more slots i found at = present_more slots i ∙ ap (λ o. present (take i slots) ++ option_to_list o) (sym at)

module _ (low n : ℕ) (book : List Order) (was : All IsOpen (auction_orders book Intraday)) where
  pub open_more : (walk : List Stamped) (found : Option Stamped) → All IsOpen (closing walk)
      → IfSome found (λ s. IsOpen s.order) → All IsOpen (closing (walk ++ option_to_list found))
  open_more walk found so_far here = grind (arith, common_steps)

  pub ladder-admitted : (walk : List Stamped) (found : Option Stamped) (ladder : LadderView) → All IsOpen (closing walk)
      → IfSome found (λ s. IsOpen s.order) → IfSome found (λ s. IsTickOf low n s.order.limit)
      → ladder ≡ ladder_of low n (admitted book walk)
      → with_closing found ladder ≡ ladder_of low n (admitted book (walk ++ option_to_list found))
  ladder-admitted walk found ladder so_far here tick is = grind (arith, common_steps, is_with)
    where
      nothing_more : ladder ≡ ladder_of low n (auction_orders book Intraday ++ (closing walk ++ []))
      nothing_more =
          is ∙ ap (λ l. ladder_of low n (auction_orders book Intraday ++ l)) (sym (append-nil (closing walk)))

      is_with : (found : Option Stamped) → IfSome found (λ s. IsOpen s.order)
          → IfSome found (λ s. IsTickOf low n s.order.limit)
          → with_closing found ladder
          ≡ ladder_of low n (auction_orders book Intraday ++ (closing walk ++ closing (option_to_list found)))
      is_with None here tick = nothing_more
      is_with (Some s) here tick =
          elim (closes s) as (λ b. cond b (with_added ladder s.order.side s.order.limit s.order.quantity) ladder
          ≡ ladder_of low n (auction_orders book Intraday ++ (closing walk ++ orders_of (cond b (s ∷ []) [])))) [
            | true ↦
                let old = All-append IsOpen (auction_orders book Intraday) (closing walk) was so_far in
                let new =
                All-append IsOpen (admitted book walk) (s.order ∷ []) old
                (All-cons IsOpen s.order [] here (All-nil IsOpen)) in
                ap (λ v. with_added v s.order.side s.order.limit s.order.quantity) is
                ∙ sym (ladder-more low n (admitted book walk) (admitted book walk ++ s.order ∷ []) old new s.order tick
                (more-push (admitted book walk) s.order))
                ∙ ap (ladder_of low n) (append_assoc (auction_orders book Intraday) (closing walk) (s.order ∷ []))
            | false ↦ nothing_more
          ]

-- ---- the whole walk

sum-present_le : (f : Stamped → ℕ) (slots : List (Option Stamped)) (i : ℕ)
    → sum_by f (present (take i slots)) ≤ sum_by f (present slots)
sum-present_le f [] zero = omega arith
sum-present_le f [] (suc i) = omega arith
sum-present_le f (slot ∷ slots) zero = omega arith
sum-present_le f (None ∷ slots) (suc i) = sum-present_le f slots i
sum-present_le f (Some s ∷ slots) (suc i) =
    omega (arith, sum-present_le f slots i, sum_by-cons f s (present (take i slots)), sum_by-cons f s (present slots))

-- a closing order that comes next still fits
pub admitted_fits : (low n : ℕ) (slots : List (Option Stamped)) (line walk : List Stamped) (i : ℕ) (s : Stamped)
    (ladder : LadderView) → IsLineOf (present slots) line → sum_by (λ (s : Stamped). s.order.quantity) line ≤ MAX_TOTAL
    → present (take (i + 1) slots) ≡ walk ++ s ∷ [] → ladder ≡ ladder_of low n (admitted (orders_of line) walk)
    → closes s ≡ true → FitsIn ladder s.order.quantity
admitted_fits low n slots line walk i s ladder is bounded more same e =
    let w : Order → ℕ = λ o. o.quantity in
    let stands = ap total_quantity same in
    let within = all_within low n (admitted (orders_of line) walk) in
    let parts = sum_by-append w (auction_orders (orders_of line) Intraday) (closing walk) in
    let f : Stamped → ℕ = λ s. cond (closes s) (w s.order) 0 in
    let first = sum-closing_walk w walk in
    let next = ap (sum_by f) more ∙ sum_by-append f walk (s ∷ []) in
    let own : sum_by f (s ∷ []) ≡ s.order.quantity =
    sum_by-cons f s [] ∙ ap (λ b. cond b s.order.quantity 0 + 0) e ∙ (omega arith) in
    let all = sum-present_le f slots (i + 1) in
    let last = sum-closing_walk w (present slots) in
    let whole = sum_by-append w (auction_orders (orders_of line) Intraday) (closing (present slots)) in
    let total = sum_all w (present slots) line is in
    let counts_le =
    sum_by-filter_both (participates_in Closing) (λ o. not (participates_in Closing o)) (λ _. refl) w
    (orders_of line) in
    let listed = sum_by-map w (λ (s : Stamped). s.order) line in
    omega arith

pub admit_fits : (low n : ℕ) (slots : List (Option Stamped)) (line : List Stamped) (i : ℕ) (found : Option Stamped)
    (ladder : LadderView) → IsLineOf (present slots) line → sum_by (λ (s : Stamped). s.order.quantity) line ≤ MAX_TOTAL
    → found ≡ slot_at slots i → ladder ≡ ladder_of low n (admitted (orders_of line) (present (take i slots)))
    → IfSome found (λ s. closes s ≡ true → FitsIn ladder s.order.quantity)
admit_fits low n slots line i None ladder is bounded at same = tt
admit_fits low n slots line i (Some s) ladder is bounded at same =
    admitted_fits low n slots line (present (take i slots)) i s ladder is bounded (walk_more slots i (Some s) at) same

-- after the walk the ladder is that of the closing auction
pub all_admitted : (low n : ℕ) (walk line : List Stamped) (was view : LadderView) → IsLineOf walk line
    → HasLadder low n Intraday (orders_of line) was → All IsOpen (closing walk)
    → view ≡ ladder_of low n (admitted (orders_of line) walk) → HasLadder low n Closing (orders_of line) view
all_admitted low n walk line was view is kept still_open same =
    grind (
      arith,
      common_steps,
      ladder-same,
      open_counted,
      All-append,
      sum_by-append,
      sum-closing,
      map-filter,
      sum_by-map,
      sum_by-filter,
    )
