-- What holds of every list of open orders.
use Rattle.std.proofs.Common.{◌≡◌, ℕ, ◌<◌, ◌≤◌, inl, inr, List, [], ◌∷◌, All, Option, refl, sym, ap, ◌∙◌, arith}
use Rattle.std.proofs.lemmas.Cmp.{tied_itself}
use Rattle.std.proofs.lemmas.List.Elements.{All-nil, All-cons}
use Rattle.std.specs.declared.cmp.Ordering.TheVariants.{Less}
use Rattle.std.proofs.lemmas.Grind.{common_steps}
use Rattle.auction_terms.specs.declared.limits.TheConstants.{MAX_QUANTITY}
use Rattle.auction_terms.specs.declared.Order.{Order}
use Rattle.auction_terms.specs.declared.Stamped.{Stamped}
use Rattle.auction_terms.specs.Auxiliary.StampedOrders.{orders_of}
use Rattle.auction_terms.specs.Auxiliary.OrderLists.{NoneHas, IdsDiffer, IsOrderly}
use Rattle.auction_terms.proofs.SortLaws.{Before, Rising}
use Rattle.order_book.specs.Orders.{by_stamp, HasSoundSlots, line_of}
use Rattle.auction_terms.proofs.RestIdLaws.{Among}
use Rattle.order_book.proofs.LineLaws.{Among-line_from, rising_line, by_stamp_total}
use Rattle.order_book.proofs.KeyLaws.{same_key}

not_before_itself : (x : Stamped) → by_stamp x x ≡ Less → ⊥
not_before_itself x h = let e = tied_itself by_stamp_total x in cc

none_has : (x : Stamped) (ys : List Stamped) → Before by_stamp x ys
    → ((y : Stamped) → Among ys y → y.order.id ≡ x.order.id → y ≡ x) → NoneHas x.order.id (orders_of ys)
none_has x [] b same = tt
none_has x (y ∷ ys) b same = (
  λ e. not_before_itself x (ap (by_stamp x) (sym (same y (inl refl) e)) ∙ b.0),
  none_has x ys b.1 (λ z m. same z (inr m)),
)

ids_differ : (xs : List Stamped) → Rising by_stamp xs
    → ((x y : Stamped) → Among xs x → Among xs y → y.order.id ≡ x.order.id → y ≡ x) → IdsDiffer (orders_of xs)
ids_differ [] r same = tt
ids_differ (x ∷ xs) r same = (
  none_has x xs r.0 (λ y m. same x y (inl refl) (inr m)),
  ids_differ xs r.1 (λ y z m n. same y z (inr m) (inr n)),
)

all_orders : (P : Order → Type 0) (xs : List Stamped) → ((y : Stamped) → Among xs y → P y.order) → All P (orders_of xs)
all_orders P [] h = All-nil P
all_orders P (x ∷ xs) h = All-cons P x.order (orders_of xs) (h x (inl refl)) (all_orders P xs (λ y m. h y (inr m)))

pub IsOrderly-line : (slots : List (Option Stamped)) (keys : List ℕ) (stamps : ℕ) → HasSoundSlots slots keys stamps
    → IsOrderly (orders_of (line_of slots))
IsOrderly-line slots keys stamps is = record {
  ids =
      ids_differ (line_of slots) (rising_line slots is.apart) (grind (arith, common_steps, Among-line_from, same_key));
  positive = all_orders (λ order. 0 < order.quantity) (line_of slots) (λ y m. let h = Among-line_from slots y m in
      (is.held h.0 y h.1).positive);
  bounded = all_orders (λ order. order.quantity ≤ MAX_QUANTITY) (line_of slots) (λ y m. let h =
      Among-line_from slots y m in (is.held h.0 y h.1).bounded);
}
