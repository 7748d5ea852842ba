-- A walk that passed no order that leaves.
use Rattle.std.proofs.Common.{◌≡◌, ℕ, ◌+◌, ◌<◌, ◌≤◌, false, List, [], ◌∷◌, Option, Some, None, IfSome, sum_by, refl}
use Rattle.std.proofs.Common.{inl, inr, sym, ap, subst, ◌∙◌, suc, arith}
use Rattle.std.proofs.lemmas.Bool.{cases_lt}
use Rattle.std.proofs.lemmas.Grind.{common_steps}
use Rattle.auction_terms.specs.declared.Stamped.{Stamped}
use Rattle.auction_terms.specs.declared.AuctionKind.{AuctionKind}
use Rattle.auction_terms.specs.Book.{is_restricted_to}
use Rattle.auction_terms.specs.Edits.{without_restricted}
use Rattle.auction_terms.proofs.StayLaws.{leaving, none_leave, all_stay}
use Rattle.order_book.specs.Orders.{present, slot_at}
use Rattle.auction.specs.OpenOrders.{OpenOrders, without_restricted_orders}
use Rattle.auction.specs.LadderBook.{LadderBookView, HasAllOrders, HasNoRestrictedAt, HasSameStaying, AddsNoOrder}

pub none_leaving : (kind : AuctionKind) (slots : List (Option Stamped))
    → ((p : ℕ) → IfSome (slot_at slots p) (λ (s : Stamped). is_restricted_to kind s.order.restriction ≡ false))
    → sum_by (leaving kind) (present slots) ≡ 0
none_leaving kind [] h = refl
none_leaving kind (None ∷ slots) h = none_leaving kind slots (λ p. h (suc p))
none_leaving kind (Some s ∷ slots) h =
    none_leave kind s (present slots) (h 0) (none_leaving kind slots (λ p. h (suc p)))

-- ---- place by place

same_kind : (old new : OpenOrders) → HasSameStaying old new → new.kind ≡ old.kind
same_kind old new is = ap (λ (b : OpenOrders). b.kind) is.rest

-- what stays at a place passed before
passed_still : (kind : AuctionKind) (old new : Option Stamped)
    → IfSome old (λ (s : Stamped). is_restricted_to kind s.order.restriction ≡ false) → IfSome new (λ s. old ≡ Some s)
    → IfSome new (λ (s : Stamped). is_restricted_to kind s.order.restriction ≡ false)
passed_still kind old new a b = grind (arith, common_steps)

pub passed_more : (place : ℕ) (old new : LadderBookView) → ((p : ℕ) → p < place → HasNoRestrictedAt old p)
    → HasSameStaying old.book new.book → AddsNoOrder old new → HasNoRestrictedAt new place → (p : ℕ) → p < place + 1
    → HasNoRestrictedAt new p
passed_more place old new passed stay still here p lt =
    elim (cases_lt p place) [
      | inl below ↦
          rw (same_kind old.book new.book stay)
          (passed_still old.book.kind (slot_at old.slots p) (slot_at new.slots p) (passed p below) (still p))
      | inr above ↦ subst (HasNoRestrictedAt new) (omega arith) here
    ]

pub still_none : (old new : Option Stamped) → old ≡ None → IfSome new (λ s. old ≡ Some s) → new ≡ None
still_none old new a b = grind (arith, common_steps)

pub stays_on : (first old new : OpenOrders) → HasSameStaying first old → HasSameStaying old new
    → HasSameStaying first new
stays_on first old new a b = record {
  stay = sym (ap (λ k. without_restricted k new.orders) (same_kind first old a)) ∙ b.stay
      ∙ ap (λ k. without_restricted k old.orders) (same_kind first old a) ∙ a.stay;
  rest = b.rest ∙ ap (λ (x : OpenOrders). record x { orders = new.orders }) a.rest;
}

-- ---- the whole walk

passed_from : (kind : AuctionKind) (o : Option Stamped) → o ≡ None
    → IfSome o (λ (s : Stamped). is_restricted_to kind s.order.restriction ≡ false)
passed_from kind o e = grind (arith, common_steps)

pub all_passed : (end : ℕ) (old new : LadderBookView) → HasSameStaying old.book new.book → HasAllOrders new
    → ((p : ℕ) → p < end → HasNoRestrictedAt new p) → ((p : ℕ) → end ≤ p → slot_at new.slots p ≡ None)
    → new.book ≡ without_restricted_orders old.book
all_passed end old new stay walk passed past =
    let kind = same_kind old.book new.book stay in
    let at : (p : ℕ) → HasNoRestrictedAt new p = λ p. elim (cases_lt p end) [
      | inl below ↦ passed p below
      | inr beyond ↦
          passed_from new.book.kind (slot_at new.slots p) (past p beyond)
    ] in
    let all =
    all_stay new.book.kind (present new.slots) new.line walk.places (none_leaving new.book.kind new.slots at) in
    let stays : without_restricted new.book.kind new.book.orders ≡ new.book.orders =
    ap (without_restricted new.book.kind) (sym walk.orders) ∙ all ∙ walk.orders in
    stay.rest ∙ ap (λ l. record old.book {
      orders =
          l;
    }) (sym stays ∙ ap (λ k. without_restricted k new.book.orders) kind ∙ stay.stay)
