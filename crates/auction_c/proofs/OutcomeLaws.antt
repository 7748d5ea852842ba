-- What an uncross does to the orders, read off tables of what its trades executed.
use Rattle.std.proofs.Common.{◌≡◌, ◌≢◌, ℕ, zero, suc, ◌+◌, ◌-◌, ◌^◌, ◌≤◌, inl, inr, min, Bool, List}
use Rattle.std.proofs.Common.{[], ◌∷◌, ◌++◌, length, map, filter, get_or, set, take, replicate, None, refl, sym, ap}
use Rattle.std.proofs.Common.{◌∙◌, arith}
use Rattle.std.proofs.lemmas.Bool.{cases_lt}
use Rattle.std.proofs.lemmas.Bool.Decides.{nat_tests}
use Rattle.std.proofs.lemmas.Grind.{common_steps}
use Rattle.std.proofs.lemmas.List.{length-map, set_past, take-map}
use Rattle.std.proofs.lemmas.List.Elements.{All-filter, All-head, All-tail}
use Rattle.auction_terms.specs.declared.OpenOrder.{OpenOrder}
use Rattle.auction_terms.specs.declared.Order.{Order}
use Rattle.auction_terms.specs.declared.Reply.{Reply}
use Rattle.auction_terms.specs.declared.Side.{Side}
use Rattle.auction_terms.specs.declared.Side.TheVariants.{Bid, Ask}
use Rattle.auction_terms.specs.declared.Trade.{Trade}
use Rattle.auction_terms.specs.Auxiliary.RunningAuction.{RunningAuction}
use Rattle.auction_terms.specs.Ladder.{tick_values}
use Rattle.auction_terms.specs.Priority.{orders_in_priority, traded_on}
use Rattle.auction_terms.proofs.LadderLaws.{at_spread, length-tick_values, set_spread}
use Rattle.auction.proofs.EmptyBookLaws.{spread_zero}
use Rattle.auction.proofs.ExecutionLaws.{executed_more, same_below}
use Rattle.auction_c.specs.declared.structs.AuctionOutcome.{AuctionOutcome}
use Rattle.auction_c.specs.Executed.{AreNumberedUpTo, by_side, filled_in, is_touched_in, outcome_in, shares_by_id}
use Rattle.auction_c.specs.Outcomes.{is_touched_with, outcome_with, outcomes, outcomes_of, shares_of, uncross_reply}
use Rattle.auction_c.specs.Outcomes.{uncross_trades, uncrossed_of}

-- ---- trade by trade

other_id : (side : Side) (tape : List Trade) (t : Trade) (id : ℕ) → (id ≢ traded_on side t)
    → shares_of tape side id ≡ shares_of (tape ++ t ∷ []) side id
other_id side tape t id differs = grind (arith, common_steps, nat_tests, executed_more)

same_id : (side : Side) (tape : List Trade) (t : Trade)
    → min (shares_of tape side (traded_on side t) + t.quantity) (2 ^ 64 - 1)
    ≡ shares_of (tape ++ t ∷ []) side (traded_on side t)
same_id side tape t = grind (arith, common_steps, nat_tests, executed_more)

-- one more trade
pub shares-more : (tape : List Trade) (side : Side) (size : ℕ) (t : Trade)
    → set (shares_by_id tape side size) (traded_on side t)
    (min (get_or (shares_by_id tape side size) (traded_on side t) 0 + t.quantity) (2 ^ 64 - 1))
    ≡ shares_by_id (tape ++ t ∷ []) side size
shares-more tape side size t =
    let id = traded_on side t in
    let old = shares_of tape side in
    let new = shares_of (tape ++ t ∷ []) side in
    let zero_id : 0 + id ≡ id = omega arith in
    elim (cases_lt id size) [
      | inl within ↦
          set_spread old new 0 size id (min (get_or (tick_values old 0 size) id 0 + t.quantity) (2 ^ 64 - 1)) within
          (ap (λ n. min (n + t.quantity) (2 ^ 64 - 1)) (at_spread old 0 size id within ∙ ap old zero_id)
          ∙ same_id side tape t ∙ ap new (sym zero_id))
          (λ other differs. other_id side tape t other (λ same. differs (same ∙ sym zero_id)))
      | inr past ↦
          set_past (tick_values old 0 size) id _ (omega (arith, past, length-tick_values old 0 size))
          ∙ same_below old new 0 size (λ other l. other_id side tape t other (λ same. omega (arith, same, l, past)))
    ]

pub shares-none : (side : Side) (size : ℕ) → shares_by_id [] side size ≡ replicate size 0
shares-none side size = spread_zero (shares_of [] side) 0 size (λ id. refl)

-- ---- the orders that are listed

module _ (reply : Reply) (trades : List Trade) (last : ℕ) where
  abbrev bids : List ℕ
  bids = shares_by_id trades Bid (last + 1)

  abbrev asks : List ℕ
  asks = shares_by_id trades Ask (last + 1)

  at_table : (side : Side) (id : ℕ) → id ≤ last
      → get_or (shares_by_id trades side (last + 1)) id 0 ≡ shares_of trades side id
  at_table side id within =
      let zero_id : 0 + id ≡ id = omega arith in
      at_spread (shares_of trades side) 0 (last + 1) id (omega arith) ∙ ap (shares_of trades side) zero_id

  at_side : (side : Side) (id : ℕ) → id ≤ last → get_or (by_side side bids asks) id 0 ≡ shares_of trades side id
  at_side Bid id within = at_table Bid id within
  at_side Ask id within = at_table Ask id within

  filled_same : (order : Order) → order.id ≤ last → filled_in bids asks order ≡ uncrossed_of trades order
  filled_same order within = ap (min order.quantity) (at_side order.side order.id within)

  abbrev touched_by : OpenOrder → Bool
  touched_by listed = is_touched_with reply (uncrossed_of trades listed.order) listed.order

  abbrev outcome_by : OpenOrder → AuctionOutcome
  outcome_by listed = outcome_with reply (uncrossed_of trades listed.order) listed.order

  abbrev IsWithin : OpenOrder → Type 0
  IsWithin listed = listed.order.id ≤ last

  same_filter : (orders : List OpenOrder) → AreNumberedUpTo last orders
      → filter (is_touched_in reply bids asks) orders ≡ filter touched_by orders
  same_filter [] all = refl
  same_filter (o ∷ orders) all =
      let head = All-head IsWithin o orders all in
      let first : is_touched_in reply bids asks o ≡ touched_by o =
      ap (λ n. is_touched_with reply n o.order) (filled_same o.order head) in
      let rest = same_filter orders (All-tail IsWithin o orders all) in
      cc

  same_map : (orders : List OpenOrder) → AreNumberedUpTo last orders
      → map (outcome_in reply bids asks) orders ≡ map outcome_by orders
  same_map [] all = refl
  same_map (o ∷ orders) all =
      let head = All-head IsWithin o orders all in
      let first : outcome_in reply bids asks o ≡ outcome_by o =
      ap (λ n. outcome_with reply n o.order) (filled_same o.order head) in
      let rest = same_map orders (All-tail IsWithin o orders all) in
      cc

  -- by the tables as by the trades
  pub same_outcomes : (orders : List OpenOrder) → AreNumberedUpTo last orders
      → map (outcome_in reply bids asks) (filter (is_touched_in reply bids asks) orders)
      ≡ outcomes_of reply trades orders
  same_outcomes orders all =
      ap (map (outcome_in reply bids asks)) (same_filter orders all)
      ∙ same_map (filter touched_by orders) (All-filter touched_by IsWithin orders all)

-- ---- what is written

-- the orders that the tables touch, as the uncross does
pub touched_outcomes : (a : RunningAuction) (reply : Reply) (trades : List Trade) (last : ℕ)
    (listed touched : List OpenOrder) (bought sold : List ℕ)
    → reply ≡ uncross_reply a → trades ≡ uncross_trades a → listed ≡ orders_in_priority None a.state
    → AreNumberedUpTo last listed
    → bought ≡ shares_by_id trades Bid (last + 1) → sold ≡ shares_by_id trades Ask (last + 1)
    → touched ≡ filter (is_touched_in reply bought sold) listed
    → map (outcome_in reply bought sold) touched ≡ outcomes a
touched_outcomes a reply trades last listed touched bought sold is_reply is_trades is_listed all is_bought is_sold so =
    let table = shares_by_id trades Bid (last + 1) in
    ap (map (outcome_in reply bought sold)) so
    ∙ ap (λ (b : List ℕ). map (outcome_in reply b sold) (filter (is_touched_in reply b sold) listed)) is_bought
    ∙ ap (λ (s : List ℕ). map (outcome_in reply table s) (filter (is_touched_in reply table s) listed)) is_sold
    ∙ same_outcomes reply trades last listed all
    ∙ ap (λ (r : Reply). outcomes_of r trades listed) is_reply
    ∙ ap (λ (t : List Trade). outcomes_of (uncross_reply a) t listed) is_trades
    ∙ ap (λ (l : List OpenOrder). outcomes_of (uncross_reply a) (uncross_trades a) l) is_listed

pub written_count : {X Y : Type 0} (f : X → Y) (xs : List X) (ys : List Y) (room n : ℕ) → map f xs ≡ ys
    → n ≡ min (length xs) room → n ≡ min (length ys) room
written_count f xs ys room n is count =
    count ∙ ap (λ (k : ℕ). min k room) (sym (length-map xs f) ∙ ap length is)

pub written_first : {X Y : Type 0} (f : X → Y) (xs : List X) (ys now rest : List Y) (n : ℕ) → map f xs ≡ ys
    → now ≡ map f (take n xs) ++ rest → now ≡ take n ys ++ rest
written_first {X} {Y} f xs ys now rest n is written =
    written ∙ ap (λ (zs : List Y). zs ++ rest) (sym (take-map f n xs) ∙ ap (take n) is)
