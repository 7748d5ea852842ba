-- The rows of a table are the records of its book.
use Rattle.std.specs.Option.{option_map_or}
use Rattle.std.specs.Simd.Lanes.{zip2}
use Rattle.std.proofs.Common.{◌≡◌, ℕ, zero, suc, ◌+◌, ◌-◌, ◌<◌, ◌≤◌, Bool, true, false, cond, eqb, ◌||◌, List, [], ◌∷◌}
use Rattle.std.proofs.Common.{◌++◌, length, get_or, Option, Some, None, IfSome, option_map, inl, inr, refl, sym}
use Rattle.std.proofs.Common.{ap, subst, ◌∙◌, append_assoc, arith}
use Rattle.std.proofs.lemmas.Bool.{cases_Bool, eq-eqb, eqb-true}
use Rattle.std.proofs.lemmas.List.{append-nil}
use Rattle.auction_terms.specs.declared.Config.{Config}
use Rattle.auction_terms.specs.declared.AuctionKind.{AuctionKind}
use Rattle.auction_terms.specs.declared.Order.{Order}
use Rattle.auction_terms.specs.declared.Side.TheVariants.{Bid, Ask}
use Rattle.auction_terms.specs.Book.{demand, supply, volume, surplus, surplus_side, has_bid_surplus, has_ask_surplus}
use Rattle.auction_terms.specs.Book.{limits, auction_orders, current_kind}
use Rattle.auction_terms.specs.AuctionPrice.{best_limits, price_tick, price, priced}
use Rattle.auction_terms.specs.Day.{State, display, display_of}
use Rattle.auction_terms.specs.Ladder.{LadderView, ladder_of, tick_values, quantity_at, market_quantity, flag_of}
use Rattle.auction_terms.specs.Ladder.{limit_flag}
use Rattle.auction_terms.specs.Auxiliary.BestTicks.{has}
use Rattle.auction_terms.specs.Auxiliary.RunningAuction.{RunningAuction}
use Rattle.auction_terms.proofs.LadderLaws.{length-tick_values, at_spread}
use Rattle.tick_ladder.specs.TickLadder.{IsLadder, IsLadderOf}
use Rattle.tick_ladder.proofs.PresenceLaws.{flag_is}
use Rattle.auction.specs.AuctionState.{current_orders, ladder_over}
use Rattle.day_tables.specs.declared.book.Table.{Table}
use Rattle.day_tables.specs.declared.curves.Curves.{Curves}
use Rattle.day_tables.specs.declared.rule.Rule.{Rule}
use Rattle.day_tables.specs.DecidingRule.{rule_of}
use Rattle.day_tables.specs.BookTable.{ShownBook, shown_book, is_among, is_price, has_record, rule_field, rule_word}
use Rattle.day_tables.specs.BookTable.{tick_record, tick_records, market_record, book_table, table_before}
use Rattle.day_tables.specs.TableCurves.{HasRoomForTicks, AreCurves, IsDecidingRule}
use Rattle.day_tables.specs.TableRows.{HasPlaces, IsTableOf, has_shares, is_at_price, is_row, side_between, rule_at}
use Rattle.day_tables.specs.TableRows.{row, row_if, table_rows_below, market_table_row, tick_shown}
use Rattle.auction_terms.proofs.LadderLaws.{limit_present}

-- ---- what is among some ticks

among_has : (t : ℕ) (ps : List ℕ) → is_among t ps ≡ has t ps
among_has t [] = refl
among_has t (p ∷ ps) = ap (λ b. eqb p t || b) (among_has t ps)

flag_tests : (b : Bool) → eqb (cond b 1 0) 1 ≡ b
flag_tests true = refl
flag_tests false = refl

-- the same word where the price is at the tick
rule_words : (book : List Order) (rule : Rule) (t : ℕ) (o : Option ℕ) → IfSome o (λ tick. rule_of book ≡ Some rule)
    → cond (option_map_or (λ p. eqb p t) o false) (rule_word rule) [] ≡ cond (option_map_or (λ p. eqb p t) o false)
    (option_map_or rule_word (rule_of book) []) []
rule_words book rule t None told = refl
rule_words book rule t (Some p) told = rw told refl

side_is : (book : List Order) (t : ℕ) → side_between (demand book t) (supply book t) ≡ surplus_side book t
unfolding surplus_side has_bid_surplus has_ask_surplus
side_is book t = refl

module _ (shown : ShownBook) (table : Table) (is : IsTableOf shown table)
    (same : length table.asks.now ≡ length table.bids.now) where
  module _ (place : ℕ) (within : place < length table.bids.now) where
    at_place : (f : ℕ → ℕ) (xs : List ℕ) → xs ≡ tick_values f table.low (length table.bids.now)
        → get_or xs place 0 ≡ f (table.low + place)
    at_place f xs e = ap (λ l. get_or l place 0) e ∙ at_spread f table.low (length table.bids.now) place within

    is_limit : has_shares table place ≡ is_among (table.low + place) (limits shown.book)
    is_limit =
        sym (flag_is table.bids.now table.asks.now place same)
        ∙ rw (at_place (limit_flag shown.book) (zip2 flag_of table.bids.now table.asks.now) is.present)
        (flag_tests _ ∙ limit_present shown.book (table.low + place)
        ∙ sym (among_has (table.low + place) (limits shown.book)))

    is_best_there : eqb (get_or table.curves.now.best.items place 0) 1
        ≡ is_among (table.low + place) (best_limits shown.book)
    is_best_there = elim (cases_Bool (eqb (get_or table.curves.now.best.items place 0) 1)) [
      | inl flagged ↦
          let flag = eqb-true (get_or table.curves.now.best.items place 0) 1 flagged in
          let there : has (table.low + place) (best_limits shown.book) ≡ true =
          subst (λ t. has t (best_limits shown.book) ≡ true)
          (at_spread (λ t. t) table.low (length table.bids.now) place within) (is.curves.best.there place flag) in
          flagged ∙ sym there ∙ sym (among_has (table.low + place) (best_limits shown.book))
      | inr unflagged ↦ elim (cases_Bool (has (table.low + place) (best_limits shown.book))) [
        | inl there ↦
            let p = is.curves.best.place (table.low + place) there in
            let in_it : p.0 < length table.bids.now = omega (arith, p.1, is.curves.flags) in
            let same : p.0 ≡ place =
            omega (arith, p.3, at_spread (λ t. t) table.low (length table.bids.now) p.0 in_it) in
            let flag : get_or table.curves.now.best.items place 0 ≡ 1 =
            subst (λ k. get_or table.curves.now.best.items k 0 ≡ 1) same p.2 in
            absurd (let wrong : true ≡ false =
            sym (eq-eqb (get_or table.curves.now.best.items place 0) 1 flag) ∙ unflagged in cc)
        | inr not_there ↦ unflagged ∙ sym not_there ∙ sym (among_has (table.low + place) (best_limits shown.book))
      ]
    ]

    price_there : is_at_price table (table.low + place) ≡ is_price shown (table.low + place)
    price_there = ap (λ o. option_map_or (λ p. eqb p (table.low + place)) o false) is.price

    rule_there : rule_at table (table.low + place) ≡ rule_field shown (table.low + place)
    rule_there =
        rw is.price (rule_words shown.book table.rule (table.low + place) (price_tick shown.book shown.reference)
        (is.rule shown.reference))

    row_is : row table place ≡ tick_record shown (table.low + place)
    unfolding row tick_record
    row_is =
        let book = shown.book in
        rw (
          rule_there,
          is_best_there,
          is.command,
          is.kind,
          at_place (quantity_at Bid book) table.bids.now is.bids,
          at_place (quantity_at Ask book) table.asks.now is.asks,
          at_place (demand book) table.curves.now.demands.items is.curves.demands,
          at_place (supply book) table.curves.now.supplies.items is.curves.supplies,
          at_place (volume book) table.curves.now.volumes.items is.curves.volumes,
          at_place (surplus book) table.curves.now.surpluses.items is.curves.surpluses,
          side_is book (table.low + place),
        ) refl

    row_there : is_row table place ≡ has_record shown (table.low + place)
    row_there = rw (is_limit, price_there) refl

    row_if_is : row_if table place ≡ cond (has_record shown (table.low + place)) (tick_record shown (table.low + place))
        []
    row_if_is = rw (row_there, row_is) refl

  records_more : (m : ℕ) (b : Bool) → has_record shown (table.low + m) ≡ b
      → tick_records shown table.low (suc m) ≡ cond b (tick_record shown (table.low + m)) []
      ++ tick_records shown table.low m
  unfolding tick_records
  records_more m true e = rw e refl
  records_more m false e = rw e refl

  rows_are : (m : ℕ) → m ≤ length table.bids.now → table_rows_below table m ≡ tick_records shown table.low m
  unfolding table_rows_below tick_records
  rows_are zero h = refl
  rows_are (suc m) h =
      let first = row_if_is m (omega arith) in
      let rest = rows_are m (omega arith) in
      let more = records_more m (has_record shown (table.low + m)) refl in
      rw (first, rest) (sym more)

  market_is : market_table_row table ≡ market_record shown
  unfolding market_table_row market_record
  market_is = rw (is.command, is.kind, is.market_bids, is.market_asks) refl

  pub whole_table : (config : Config) → table.low ≡ config.low → length table.bids.now ≡ config.high + 1 - config.low
      → market_table_row table ++ table_rows_below table (length table.bids.now) ≡ book_table config shown
  unfolding book_table
  whole_table config low long =
      rw (market_is, rows_are (length table.bids.now) (omega arith), low, long) refl

-- ---- from an auction to its table

shown_price : (book : List Order) (r : ℕ) (o : Option ℕ) → tick_shown (display_of book (option_map (priced book) o)) ≡ o
unfolding priced
shown_price book r None = refl
shown_price book r (Some p) = refl

pub price_of_display : (state : State) → tick_shown (display state) ≡ price_tick (current_orders state) state.reference
unfolding display price
price_of_display state =
    shown_price (current_orders state) state.reference (price_tick (current_orders state) state.reference)

pub ladder_ticks : (low n : ℕ) (book : List Order) (v : LadderView) → v ≡ ladder_of low n book → length v.bids ≡ n
unfolding ladder_of
ladder_ticks low n book v is =
    ap (λ (w : LadderView). length w.bids) is ∙ length-tick_values (quantity_at Bid book) low n

pub ladder_low : (low n : ℕ) (book : List Order) (v : LadderView) → v ≡ ladder_of low n book → v.low ≡ low
unfolding ladder_of
ladder_low low n book v is = ap (λ (w : LadderView). w.low) is

-- the fields of a ladder of a book
record LadderParts (v : LadderView) (book : List Order) : Type 0 where
  bids : v.bids ≡ tick_values (quantity_at Bid book) v.low (length v.bids)
  asks : v.asks ≡ tick_values (quantity_at Ask book) v.low (length v.bids)
  present : v.present ≡ tick_values (limit_flag book) v.low (length v.bids)
  market_bids : v.market_bids ≡ market_quantity Bid book
  market_asks : v.market_asks ≡ market_quantity Ask book

ladder_parts : (v : LadderView) (book : List Order) → IsLadderOf v book → LadderParts v book
unfolding ladder_of
ladder_parts v book is = record {
  bids = ap (λ (w : LadderView). w.bids) is.same;
  asks = ap (λ (w : LadderView). w.asks) is.same;
  present = ap (λ (w : LadderView). w.present) is.same;
  market_bids = ap (λ (w : LadderView). w.market_bids) is.same;
  market_asks = ap (λ (w : LadderView). w.market_asks) is.same;
}

-- the numbers of a table are those of a ladder
pub record IsDrawn (v : LadderView) (table : Table) : Type 0 where
  pub low : table.low ≡ v.low
  pub market_bids : table.market_bids ≡ v.market_bids
  pub market_asks : table.market_asks ≡ v.market_asks
  pub bids : table.bids.now ≡ v.bids
  pub asks : table.asks.now ≡ v.asks

pub places_drawn : (v : LadderView) (table : Table) → IsLadder v → IsDrawn v table
    → HasRoomForTicks (length v.bids) table.curves.now → HasPlaces table
places_drawn v table sound drawn room = record {
  asks = rw (drawn.asks, drawn.bids) sound.same;
  curves = rw drawn.bids room;
  few = rw drawn.bids sound.few;
  last = rw (drawn.bids, drawn.low) sound.last;
}

pub table_drawn : (v : LadderView) (shown : ShownBook) (table : Table) → IsLadder v → IsLadderOf v shown.book
    → IsDrawn v table
    → table.command ≡ shown.command → table.kind ≡ shown.auction
    → AreCurves v.low (length v.bids) table.curves.now shown.book → table.price ≡ price_tick shown.book shown.reference
    → IsDecidingRule shown.book table.rule → IsTableOf shown table
table_drawn v shown table sound is drawn command kind curves price rule =
    let parts = ladder_parts v shown.book is in
    record {
      command = command;
      kind = kind;
      market_bids = drawn.market_bids ∙ parts.market_bids;
      market_asks = drawn.market_asks ∙ parts.market_asks;
      bids = rw (drawn.low, drawn.bids) parts.bids;
      asks = rw (drawn.low, drawn.bids, drawn.asks) parts.asks;
      present = rw (drawn.low, drawn.bids, drawn.asks) (sym sound.flags ∙ parts.present);
      curves = rw (drawn.low, drawn.bids) curves;
      price = price;
      rule = rule;
    }

-- the text of the table before a command, in the call phase of an auction
pub table-printed : (auction : RunningAuction) (command : ℕ) (kind : AuctionKind) (v : LadderView) (table : Table)
    → auction.state.auction ≡ Some kind
    → v ≡ ladder_over auction.config (current_orders auction.state) → IsLadder v
    → IsLadderOf v (current_orders auction.state) → IsDrawn v table
    → table.command ≡ command → table.kind ≡ kind
    → AreCurves v.low (length v.bids) table.curves.now (current_orders auction.state)
    → table.price ≡ tick_shown (display auction.state) → IsDecidingRule (current_orders auction.state) table.rule
    → market_table_row table ++ table_rows_below table (length table.bids.now)
    ≡ table_before auction.config command auction.state
unfolding table_before
table-printed auction command kind v table now over sound is drawn to_command to_kind curves price rule =
    let state = auction.state in
    let shown : ShownBook = shown_book command state kind in
    let same : current_orders state ≡ shown.book = ap (λ k. auction_orders state.book (current_kind k)) now in
    let of_book : IsTableOf shown table =
    table_drawn v shown table sound (subst (IsLadderOf v) same is) drawn to_command to_kind
    (subst (AreCurves v.low (length v.bids) table.curves.now) same curves)
    (price ∙ price_of_display state ∙ ap (λ book. price_tick book state.reference) same)
    (subst (λ book. IsDecidingRule book table.rule) same rule) in
    rw now
    (whole_table shown table of_book (rw (drawn.asks, drawn.bids) sound.same) auction.config
    (drawn.low ∙ ladder_low auction.config.low _ (current_orders state) v over)
    (ap length drawn.bids ∙ ladder_ticks auction.config.low _ (current_orders state) v over))

-- ---- rows and tables, one by one

-- a field was put on the page, and then all that is left
pub field-rest : (old middle new field rest : List ℕ) → middle ≡ old ++ field → new ≡ middle ++ rest
    → new ≡ old ++ (field ++ rest)
field-rest old middle new field rest e f = f ∙ ap (λ t. t ++ rest) e ∙ append_assoc old field rest

pub rows-next : (table : Table) (front all : List ℕ) (place next : ℕ) → place ≡ next + 1
    → front ++ table_rows_below table place ≡ all
    → front ++ (row_if table next ++ table_rows_below table next) ≡ all
unfolding table_rows_below
rows-next table front all place next is e =
    let to : place ≡ suc next = omega arith in
    rw to at e

pub rows-done : (table : Table) (front all : List ℕ) (place next : ℕ) → place ≡ next + 1
    → front ++ table_rows_below table place ≡ all
    → (front ++ row_if table next) ++ table_rows_below table next ≡ all
rows-done table front all place next is e = append_assoc front _ _ ∙ rows-next table front all place next is e

pub rows-end : (table : Table) (front all : List ℕ) (place : ℕ) → place ≡ 0
    → front ++ table_rows_below table place ≡ all
    → front ≡ all
unfolding table_rows_below
rows-end table front all place none e = sym (append-nil front) ∙ rw none at e

-- ---- the room of the curves

pub room_back : (old new : RunningAuction) (v : LadderView) (curves : Curves) → new ≡ old
    → v ≡ ladder_over new.config (current_orders new.state)
    → HasRoomForTicks (length v.bids) curves → HasRoomForTicks (old.config.high + 1 - old.config.low) curves
room_back old new v curves same over room =
    let long =
    ladder_ticks old.config.low (old.config.high + 1 - old.config.low) (current_orders old.state) v
    (rw same at over) in
    subst (λ n. HasRoomForTicks n curves) long room

pub own_room : (n : ℕ) (curves : Curves) → HasRoomForTicks n curves → HasRoomForTicks (length curves.best.items) curves
own_room n curves room = subst (λ m. HasRoomForTicks m curves) (sym room.best) room

pub own_curves : (low n : ℕ) (curves : Curves) (book : List Order) → AreCurves low n curves book
    → AreCurves low (length curves.best.items) curves book
own_curves low n curves book are = subst (λ m. AreCurves low m curves book) (sym are.flags) are
