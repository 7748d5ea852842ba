-- Answers of `LadderBook::admit` (src/book/counted/ending.rt): what the prover left open; rt looks here.
use Rattle.std.proofs.Common.{◌≡◌, ◌≤◌, All, length, take, sum_by, sym, ap, subst, refl, ◌∙◌, arith}
use Rattle.std.proofs.lemmas.Grind.{common_steps}
use Rattle.auction_terms.specs.declared.Stamped.{Stamped}
use Rattle.auction_terms.specs.declared.limits.TheConstants.{MAX_TOTAL}
use Rattle.auction_terms.specs.declared.AuctionKind.{AuctionKind}
use Rattle.auction_terms.specs.declared.AuctionKind.TheVariants.{Intraday, Closing}
use Rattle.auction_terms.specs.Auxiliary.StampedOrders.{orders_of, IsLineOf}
use Rattle.auction_terms.specs.Ladder.{LadderView, ladder_of, IsTickOf}
use Rattle.order_book.specs.Orders.{OrdersView as Orders, present}
use Rattle.order_book.proofs.WalkLaws.{present_all}
use Rattle.auction.specs.LadderBook.{LadderBookView, HasLadder, IsLadderBook}
use Rattle.auction.specs.OpenOrders.{OpenOrders}
use Rattle.auction.proofs.FoundOrderLaws.{some_found}
use Rattle.auction.proofs.LadderBookLaws.{IsOpen, open_counted, low_of, ticks_of}
use Rattle.auction.proofs.AdmissionLaws.{closing, admitted, walk_more, open_more, ladder-admitted, admit_fits}
use Rattle.auction.proofs.AdmissionLaws.{all_admitted}
use Rattle.auction.proofs.OpenOrdersLaws.{counted_again, seen_rest}
use Rattle.auction.proofs.book.counted.LadderBook.admit.Goals as goal

-- the orders are as they were
kept_now : (old now : Orders) (ladder : LadderView) (kind : AuctionKind) → now ≡ old → kind ≡ Intraday
    → IsLadderBook old ladder kind → HasLadder ladder.low (length ladder.bids) Intraday (orders_of now.line) ladder
kept_now old now ladder kind e k is =
    subst (λ (x : Orders). HasLadder ladder.low (length ladder.bids) Intraday (orders_of x.line) ladder) (sym e)
    (subst (λ x. HasLadder ladder.low (length ladder.bids) x (orders_of old.line) ladder) k is.kept)

pub admit_one-requires-clause-in_bounds : goal.admit_one-requires-clause-in_bounds
admit_one-requires-clause-in_bounds c =
    let low = c.self.inside.ladder.low in
    let n = length c.self.inside.ladder.bids in
    let orders = c.loop-place.self-inside.orders in
    let ladder = c.loop-place.self-inside.ladder in
    let book = admitted (orders_of orders.line) (present (take c.loop-place.place orders.slots)) in
    let kept =
    kept_now c.self.inside.orders orders c.self.inside.ladder c.self.inside.kind c.loop-place.invariant.orders
    (ap (λ (b : LadderBookView). b.book.kind) c.self.view_is ∙ c.requires) c.self.invariant in
    some_found (λ o. IsTickOf ladder.low (length ladder.bids) o.limit) orders.line c.at.result
    (subst (λ l. All (λ o. IsTickOf l (length ladder.bids) o.limit) (orders_of orders.line))
    (sym (low_of low n book ladder c.loop-place.invariant.same))
    (subst (λ k. All (λ o. IsTickOf low k o.limit) (orders_of orders.line))
    (sym (ticks_of low n book ladder c.loop-place.invariant.same)) kept.within))
    c.at.ensures.«open»

pub admit_one-requires-clause-fits : goal.admit_one-requires-clause-fits
admit_one-requires-clause-fits c =
    let orders = c.loop-place.self-inside.orders in
    admit_fits _ _ orders.slots orders.line c.loop-place.place c.at.result c.loop-place.self-inside.ladder
    (subst (λ (x : Orders). IsLineOf (present x.slots) x.line) (sym c.loop-place.invariant.orders)
    c.places-place-end.ensures.line)
    (subst (λ (x : Orders). sum_by (λ (s : Stamped). s.order.quantity) x.line ≤ MAX_TOTAL)
    (sym c.loop-place.invariant.orders) c.places-place-end.ensures.bounded)
    c.at.ensures.value c.loop-place.invariant.same

pub loop-place-preserved : goal.loop-place-preserved
loop-place-preserved c =
    let low = c.self.inside.ladder.low in
    let n = length c.self.inside.ladder.bids in
    let orders = c.loop-place.self-inside.orders in
    let book = orders_of orders.line in
    let walk = present (take c.loop-place.place orders.slots) in
    let kept =
    kept_now c.self.inside.orders orders c.self.inside.ladder c.self.inside.kind c.loop-place.invariant.orders
    (ap (λ (b : LadderBookView). b.book.kind) c.self.view_is ∙ c.requires) c.self.invariant in
    let was = open_counted Intraday book kept.orderly in
    let more = walk_more orders.slots c.loop-place.place c.at.result c.at.ensures.value in
    let here = some_found IsOpen orders.line c.at.result kept.orderly.positive c.at.ensures.«open» in
    let tick = some_found (λ o. IsTickOf low n o.limit) orders.line c.at.result kept.within c.at.ensures.«open» in
    record {
      same =
          c.admit_one.ensures
          ∙ ladder-admitted low n book was walk c.at.result c.loop-place.self-inside.ladder
          c.loop-place.invariant.still_open here tick c.loop-place.invariant.same
          ∙ ap (λ l. ladder_of low n (admitted book l)) (sym more);
      still_open =
          subst (λ l. All IsOpen (closing l)) (sym more)
          (open_more low n book was walk c.at.result c.loop-place.invariant.still_open here);
      orders = c.loop-place.invariant.orders;
      kind = c.loop-place.invariant.kind;
    }

kept_closing : (c : goal.After-self-1) → HasLadder c.self.inside.ladder.low (length c.self.inside.ladder.bids) Closing
    (orders_of c.loop-place.self-inside.orders.line) c.loop-place.self-inside.ladder
kept_closing c =
    let orders = c.loop-place.self-inside.orders in
    let same = c.loop-place.invariant.orders in
    let kept =
    kept_now c.self.inside.orders orders c.self.inside.ladder c.self.inside.kind same
    (ap (λ (b : LadderBookView). b.book.kind) c.self.view_is ∙ c.requires) c.self.invariant in
    let line = subst (λ (x : Orders). IsLineOf (present x.slots) x.line) (sym same) c.places-place-end.ensures.line in
    let all =
    subst (λ (x : Orders). length x.slots ≤ c.places-place-end.result) (sym same) c.places-place-end.ensures.all in
    grind (
      arith,
      common_steps,
      present_all,
      all_admitted,
      closing,
      admitted,
      kept,
      line,
      all,
      c.loop-place.invariant.same,
      c.loop-place.invariant.still_open,
    )

pub invariant_of-self : goal.invariant_of-self
invariant_of-self c =
    let same = c.loop-place.invariant.orders in
    counted_again c.loop-place.self-inside.orders c.self.inside.orders.max_open (kept_closing c)
    (ap (λ (o : Orders). o.max_open) same)
    (omega (arith, ap (λ (o : Orders). length (orders_of o.line)) same, c.self.invariant.few))
    c.self.invariant.small

pub returns : goal.returns
returns c =
    let same = c.loop-place.invariant.orders in
    let seen = ap (λ (b : LadderBookView). b.book) c.self.view_is in
    let view = c.args.self.now.book in
    seen_rest c.self.inside.orders c.loop-place.self-inside.orders c.self.inside.ladder c.loop-place.self-inside.ladder
    c.self.inside.kind Closing Closing view seen (kept_closing c)
    refl view.orders (ap (λ (o : Orders). orders_of o.line) same ∙ ap (λ (v : OpenOrders). v.orders) seen)
    (subst (λ (o : Orders). o ≡ record c.self.inside.orders { line = o.line; slots = o.slots }) (sym same) refl)
