-- Lists by rising stamps: what is in them fixes them.
use Rattle.std.proofs.Common.{◌≡◌, ◌≢◌, ◌⊎◌, inl, inr, ℕ, zero, suc, Bool, true, false, cond, List, [], ◌∷◌, ◌++◌}
use Rattle.std.proofs.Common.{Option, Some, None, map, filter, refl, sym, ap, ◌∙◌, arith, cond}
use Rattle.std.proofs.lemmas.Bool.Decides.{nat_tests}
use Rattle.std.proofs.lemmas.Cmp.{nat_cmp_total, on_total}
use Rattle.std.specs.Cmp.{IsTotalOrder}
use Rattle.std.specs.Ordering.{nat_cmp}
use Rattle.std.specs.declared.cmp.Ordering.{Ordering}
use Rattle.std.specs.declared.cmp.Ordering.TheVariants.{Less, Equal}
use Rattle.std.proofs.lemmas.Grind.{common_steps}
use Rattle.auction_terms.specs.declared.Stamped.{Stamped}
use Rattle.auction_terms.specs.Auxiliary.Sort.{place_in, in_order}
use Rattle.auction_terms.proofs.RestIdLaws.{Among}
use Rattle.auction_terms.proofs.SortLaws.{Before, Rising, Apart, AllApart, rising_in_order}
use Rattle.order_book.specs.Orders.{by_stamp, present, line_of, slot_at}

module _ {X : Type 0} (R : X → X → Ordering) (o : IsTotalOrder R) where
  before_among : (x z : X) (ys : List X) → Before R x ys → Among ys z → R x z ≡ Less
  before_among x z [] b m = absurd m
  before_among x z (y ∷ ys) b m = elim m [ inl e ↦ ap (R x) (sym e) ∙ b.0 | inr n ↦ before_among x z ys b.1 n ]

  same_heads : (x y : X) (xs ys : List X) → Before R x xs → Before R y ys → Among (y ∷ ys) x → Among (x ∷ xs) y → x ≡ y
  same_heads x y xs ys b c m n = grind (arith, common_steps, before_among)

  in_tail : (x z : X) (xs ys : List X) → Before R x xs → Among xs z → Among (x ∷ ys) z → Among ys z
  in_tail x z xs ys b m n = grind (arith, common_steps, before_among)

  -- two rising lists with the same elements are one
  pub same_rising : (xs ys : List X) → Rising R xs → Rising R ys → ((z : X) → Among xs z → Among ys z)
      → ((z : X) → Among ys z → Among xs z) → xs ≡ ys
  same_rising [] [] r s f g = refl
  same_rising [] (y ∷ ys) r s f g = absurd (g y (inl refl))
  same_rising (x ∷ xs) [] r s f g = absurd (f x (inl refl))
  same_rising (x ∷ xs) (y ∷ ys) r s f g = search (arith, same_heads, in_tail, (same_rising xs ys r.1 s.1))

module _ {X : Type 0} where
  pub Among-map : {Y : Type 0} (f : X → Y) (xs : List X) (x : X) → Among xs x → Among (map f xs) (f x)
  Among-map f [] x m = m
  Among-map f (y ∷ ys) x m = elim m [ inl e ↦ inl (ap f e) | inr n ↦ inr (Among-map f ys x n) ]

  pub Among-map_from : {Y : Type 0} (f : X → Y) (xs : List X) (z : Y) → Among (map f xs) z → (x : X) × Among xs x
      × (f x ≡ z)
  Among-map_from f [] z m = absurd m
  Among-map_from f (y ∷ ys) z m =
      elim m [ inl e ↦ (y, inl refl, e) | inr n ↦ let r = Among-map_from f ys z n in (r.0, inr r.1, r.2) ]

  pub Among-filter : (p : X → Bool) (xs : List X) (z : X) → Among xs z → p z ≡ true → Among (filter p xs) z
  Among-filter p [] z m t = m
  Among-filter p (x ∷ xs) z m t =
      let at : (b : Bool) → p x ≡ b → Among (cond b (x ∷ filter p xs) (filter p xs)) z =
      λ b. elim b as (λ b. p x ≡ b → Among (cond b (x ∷ filter p xs) (filter p xs)) z) [
        | true ↦ λ e. elim m [ inl h ↦ inl h | inr n ↦ inr (Among-filter p xs z n t) ]
        | false ↦ λ e. elim m [ inl h ↦ absurd (let g : p x ≡ p z = ap p h in cc) | inr n ↦ Among-filter p xs z n t ]
      ] in
      at (p x) refl

  pub Among-filter_from : (p : X → Bool) (xs : List X) (z : X) → Among (filter p xs) z → Among xs z × (p z ≡ true)
  Among-filter_from p [] z m = absurd m
  Among-filter_from p (x ∷ xs) z m =
      let at : (b : Bool) → p x ≡ b → Among (cond b (x ∷ filter p xs) (filter p xs)) z
      → Among (x ∷ xs) z × (p z ≡ true) =
      λ b. elim b as (λ b. p x ≡ b → Among (cond b (x ∷ filter p xs) (filter p xs)) z
      → Among (x ∷ xs) z × (p z ≡ true)) [
        | true ↦ λ e m. elim m [
          | inl h ↦ (inl h, ap p (sym h) ∙ e)
          | inr n ↦ let r = Among-filter_from p xs z n in
              (inr r.0, r.1)
        ]
        | false ↦ λ e m. let r = Among-filter_from p xs z m in (inr r.0, r.1)
      ] in
      at (p x) refl m

  pub Among-append_left : (xs ys : List X) (z : X) → Among xs z → Among (xs ++ ys) z
  Among-append_left [] ys z m = absurd m
  Among-append_left (x ∷ xs) ys z m = elim m [ inl h ↦ inl h | inr n ↦ inr (Among-append_left xs ys z n) ]

  pub Among-append_right : (xs ys : List X) (z : X) → Among ys z → Among (xs ++ ys) z
  Among-append_right [] ys z m = m
  Among-append_right (x ∷ xs) ys z m = inr (Among-append_right xs ys z m)

  pub Among-append_from : (xs ys : List X) (z : X) → Among (xs ++ ys) z → Among xs z ⊎ Among ys z
  Among-append_from [] ys z m = inr m
  Among-append_from (x ∷ xs) ys z m =
      elim m [
        | inl h ↦ inl (inl h)
        | inr n ↦
            elim (Among-append_from xs ys z n) [ inl l ↦ inl (inr l) | inr r ↦ inr r ]
      ]

module _ {X : Type 0} (R : X → X → Ordering) where
  Among-place_in : (x : X) (ys : List X) (z : X) → (x ≡ z) ⊎ Among ys z → Among (place_in R x ys) z
  Among-place_in x [] z m = m
  Among-place_in x (y ∷ ys) z m = grind (arith, common_steps, (Among-place_in x ys z))

  Among-place_in_from : (x : X) (ys : List X) (z : X) → Among (place_in R x ys) z → (x ≡ z) ⊎ Among ys z
  Among-place_in_from x [] z m = m
  Among-place_in_from x (y ∷ ys) z m = grind (arith, common_steps, (Among-place_in_from x ys z))

  pub Among-in_order : (xs : List X) (z : X) → Among xs z → Among (in_order R xs) z
  Among-in_order [] z m = m
  Among-in_order (x ∷ xs) z m =
      Among-place_in x (in_order R xs) z (elim m [ inl h ↦ inl h | inr n ↦ inr (Among-in_order xs z n) ])

  pub Among-in_order_from : (xs : List X) (z : X) → Among (in_order R xs) z → Among xs z
  Among-in_order_from [] z m = m
  Among-in_order_from (x ∷ xs) z m =
      elim (Among-place_in_from x (in_order R xs) z m) [ inl h ↦ inl h | inr n ↦ inr (Among-in_order_from xs z n) ]

  pub before_filter : (p : X → Bool) (x : X) (ys : List X) → Before R x ys → Before R x (filter p ys)
  before_filter p x [] b = tt
  before_filter p x (y ∷ ys) b = grind (arith, common_steps, (before_filter p x ys b.1))

  pub rising_filter : (p : X → Bool) (xs : List X) → Rising R xs → Rising R (filter p xs)
  rising_filter p [] r = tt
  rising_filter p (x ∷ xs) r = grind (arith, common_steps, before_filter, (rising_filter p xs r.1))

  before_map : (f : X → X) (same : (x y : X) → R (f x) (f y) ≡ R x y) (x : X) (ys : List X) → Before R x ys
      → Before R (f x) (map f ys)
  before_map f same x [] b = tt
  before_map f same x (y ∷ ys) b = (same x y ∙ b.0, before_map f same x ys b.1)

  pub rising_map : (f : X → X) (same : (x y : X) → R (f x) (f y) ≡ R x y) (xs : List X) → Rising R xs
      → Rising R (map f xs)
  rising_map f same [] r = tt
  rising_map f same (x ∷ xs) r = (before_map f same x xs r.0, rising_map f same xs r.1)

  before_push : (x z : X) (ys : List X) → Before R x ys → R x z ≡ Less → Before R x (ys ++ z ∷ [])
  before_push x z [] b l = (l, tt)
  before_push x z (y ∷ ys) b l = (b.0, before_push x z ys b.1 l)

  pub rising_push : (xs : List X) (z : X) → Rising R xs → ((x : X) → Among xs x → R x z ≡ Less)
      → Rising R (xs ++ z ∷ [])
  rising_push [] z r l = (tt, tt)
  rising_push (x ∷ xs) z r l = (before_push x z xs r.0 (l x (inl refl)), rising_push xs z r.1 (λ y m. l y (inr m)))

  pub apart_among : (x : X) (ys : List X) → ((y : X) → Among ys y → R x y ≢ Equal) → Apart R x ys
  apart_among x [] h = tt
  apart_among x (y ∷ ys) h = (h y (inl refl), apart_among x ys (λ z m. h z (inr m)))

pub by_stamp_total : IsTotalOrder by_stamp
by_stamp_total = on_total (λ (s : Stamped). s.stamp) nat_cmp_total

-- it is at some key
abbrev pub IsAtSomeKey : List (Option Stamped) → Stamped → Type 0
IsAtSomeKey slots z = (key : ℕ) × (slot_at slots key ≡ Some z)

pub Among-present : (slots : List (Option Stamped)) (key : ℕ) (z : Stamped) → slot_at slots key ≡ Some z
    → Among (present slots) z
Among-present [] key z e = absurd (cc)
Among-present (None ∷ slots) zero z e = absurd (cc)
Among-present (Some s ∷ slots) zero z e = inl (cc)
Among-present (None ∷ slots) (suc key) z e = Among-present slots key z e
Among-present (Some s ∷ slots) (suc key) z e = inr (Among-present slots key z e)

pub Among-present_from : (slots : List (Option Stamped)) (z : Stamped) → Among (present slots) z → IsAtSomeKey slots z
Among-present_from [] z m = absurd m
Among-present_from (None ∷ slots) z m = let r = Among-present_from slots z m in (suc r.0, r.1)
Among-present_from (Some s ∷ slots) z m =
    elim m [ inl e ↦ (0, ap (λ x. Some x) e) | inr n ↦ let r = Among-present_from slots z n in (suc r.0, r.1) ]

-- no two keys have one stamp
abbrev pub AreApart : List (Option Stamped) → Type 0
AreApart slots =
    (i j : ℕ) (s t : Stamped) → slot_at slots i ≡ Some s → slot_at slots j ≡ Some t → s.stamp ≡ t.stamp → i ≡ j

nat_tie : (m n : ℕ) → nat_cmp m n ≡ Equal → m ≡ n
nat_tie m n h = grind (arith, nat_tests)

later_keys : (slot : Option Stamped) (slots : List (Option Stamped)) → AreApart (slot ∷ slots) → AreApart slots
later_keys slot slots a i j s t f g h = let e = a (suc i) (suc j) s t f g h in omega arith

all_apart_present : (slots : List (Option Stamped)) → AreApart slots → AllApart by_stamp (present slots)
all_apart_present [] a = tt
all_apart_present (None ∷ slots) a = all_apart_present slots (later_keys None slots a)
all_apart_present (Some s ∷ slots) a = (
  apart_among by_stamp s (present slots) (λ t m tie.
      let held = Among-present_from slots t m in
      let e = a 0 (suc held.0) s t refl held.1 (nat_tie s.stamp t.stamp tie) in
      omega arith),
  all_apart_present slots (later_keys (Some s) slots a),
)

pub rising_line : (slots : List (Option Stamped)) → AreApart slots → Rising by_stamp (line_of slots)
unfolding line_of
rising_line slots a = rising_in_order by_stamp by_stamp_total (present slots) (all_apart_present slots a)

pub Among-line : (slots : List (Option Stamped)) (z : Stamped) → IsAtSomeKey slots z → Among (line_of slots) z
unfolding line_of
Among-line slots z h = Among-in_order by_stamp (present slots) z (Among-present slots h.0 z h.1)

pub Among-line_from : (slots : List (Option Stamped)) (z : Stamped) → Among (line_of slots) z → IsAtSomeKey slots z
unfolding line_of
Among-line_from slots z m = Among-present_from slots z (Among-in_order_from by_stamp (present slots) z m)

-- a rising list of what the keys have is the line
pub line_is : (slots : List (Option Stamped)) → AreApart slots → (line : List Stamped) → Rising by_stamp line
    → ((z : Stamped) → IsAtSomeKey slots z → Among line z) → ((z : Stamped) → Among line z → IsAtSomeKey slots z)
    → line_of slots ≡ line
line_is slots a line r f g =
    same_rising by_stamp by_stamp_total (line_of slots) line (rising_line slots a) r
    (λ z m. f z (Among-line_from slots z m)) (λ z m. Among-line slots z (g z m))
