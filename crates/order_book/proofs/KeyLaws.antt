-- What a change at one key makes of the line.
use Rattle.std.proofs.Common.{◌≡◌, ◌≢◌, inl, inr, ℕ, suc, ◌-◌, ◌*◌, ◌<◌, ◌≤◌, Bool, true, false, cond, not, List, []}
use Rattle.std.proofs.Common.{◌∷◌, ◌++◌, length, Option, Some, None, map, filter, refl, sym, ap, subst, ◌∙◌, arith}
use Rattle.std.proofs.Common.{is_some, IsSome, IfSome, count_by, find, slice_index}
use Rattle.std.proofs.lemmas.Bool.Decides.{nat_tests}
use Rattle.std.proofs.lemmas.Bool.{cases_eq, eqb-true}
use Rattle.std.proofs.lemmas.List.Sums.{sum_by-cons}
use Rattle.std.proofs.lemmas.List.{get_or_append_left}
use Rattle.std.specs.Ordering.{nat_cmp}
use Rattle.std.specs.declared.cmp.Ordering.TheVariants.{Less}
use Rattle.std.proofs.lemmas.Grind.{common_steps}
use Rattle.auction_terms.specs.declared.Stamped.{Stamped}
use Rattle.auction_terms.specs.Auxiliary.Sort.{PlaceBelow, PlacesRise}
use Rattle.auction_terms.specs.Auxiliary.StampedOrders.{order_of, open_quantity_of, placed_by_stamp, IsLineOf}
use Rattle.auction_terms.specs.Auxiliary.Sort.{place_in, in_order}
use Rattle.auction_terms.proofs.SortLaws.{Before, Rising, sum_by-in_order}
use Rattle.auction_terms.specs.declared.limits.TheConstants.{MAX_QUANTITY, MAX_TOTAL, MAX_OPEN_ORDERS}
use Rattle.auction_terms.specs.Edits.{has_id, find_by, changed_by, without_by}
use Rattle.auction_terms.specs.Auxiliary.OrderLists.{moved_by}
use Rattle.order_book.specs.Orders.{by_stamp, present, line_of, slot_at}
use Rattle.order_book.specs.Orders.{IsStoredAt, HasSoundSlots, IsNotAtKey, IsOpenId}
use Rattle.order_book.specs.Orders.{IsOrderAt}
use Rattle.auction_terms.proofs.RestIdLaws.{Among}
use Rattle.order_book.proofs.LineLaws.{AreApart, Among-line, Among-line_from, line_is, rising_line, rising_push}
use Rattle.order_book.proofs.LineLaws.{rising_filter, rising_map, same_rising, by_stamp_total, Among-append_left}
use Rattle.order_book.proofs.LineLaws.{Among-append_right, Among-append_from, Among-map, Among-map_from, Among-filter}
use Rattle.order_book.proofs.LineLaws.{Among-filter_from}

length-place_in : (x : Stamped) (ys : List Stamped) → length (place_in by_stamp x ys) ≡ suc (length ys)
length-place_in x [] = refl
length-place_in x (y ∷ ys) = grind (arith, common_steps, (length-place_in x ys))

length-in_order : (xs : List Stamped) → length (in_order by_stamp xs) ≡ length xs
length-in_order [] = refl
length-in_order (x ∷ xs) = length-place_in x (in_order by_stamp xs) ∙ ap suc (length-in_order xs)

pub length-present : (slots : List (Option Stamped)) → length (present slots) ≡ count_by is_some slots
length-present [] = refl
length-present (None ∷ slots) = omega (arith, length-present slots, sum_by-cons (λ o. cond (is_some o) 1 0) None slots)
length-present (Some s ∷ slots) =
    omega (arith, length-present slots, sum_by-cons (λ o. cond (is_some o) 1 0) (Some s) slots)

-- there are as many open orders as the slab has values
pub length-line : (slots : List (Option Stamped)) → length (line_of slots) ≡ count_by is_some slots
unfolding line_of
length-line slots = length-in_order (present slots) ∙ length-present slots

pub line-empty : (slots : List (Option Stamped)) → slots ≡ [] → line_of slots ≡ []
unfolding line_of
line-empty slots e = ap line_of e

is_below : (m n : ℕ) → nat_cmp m n ≡ Less → m < n
is_below m n h = grind (arith, nat_tests)

pub is_less : (m n : ℕ) → m < n → nat_cmp m n ≡ Less
is_less m n h = grind (arith, nat_tests)

place_below : (x : Stamped) (ys : List Stamped) → Before by_stamp x ys → PlaceBelow x.stamp (map placed_by_stamp ys)
place_below x [] b = tt
place_below x (y ∷ ys) b = (is_below x.stamp y.stamp b.0, place_below x ys b.1)

places_rise : (xs : List Stamped) → Rising by_stamp xs → PlacesRise (map placed_by_stamp xs)
places_rise [] r = tt
places_rise (x ∷ xs) r = (place_below x xs r.0, places_rise xs r.1)

pub line_of-walk : (slots : List (Option Stamped)) → AreApart slots → IsLineOf (present slots) (line_of slots)
unfolding line_of
line_of-walk slots a = record {
  rising = places_rise (line_of slots) (rising_line slots a);
  same =
      λ f. sum_by-in_order by_stamp f (present slots);
}

-- `find` and what is in a list
find_among : {X : Type 0} (p : X → Bool) (xs : List X) (z : X) → Among xs z → p z ≡ true
    → ((y : X) → Among xs y → p y ≡ true → y ≡ z) → find p xs ≡ Some z
find_among p [] z m t u = absurd m
find_among p (x ∷ xs) z m t u =
    let at : (b : Bool) → p x ≡ b → cond b (Some x) (find p xs) ≡ Some z =
    λ b. elim b as (λ b. p x ≡ b → cond b (Some x) (find p xs) ≡ Some z) [
      | true ↦ λ e. ap (λ y. Some y) (u x (inl refl) e)
      | false ↦ λ e. elim m [
        | inl h ↦ absurd (let g : p x ≡ p z = ap p h in cc)
        | inr n ↦
            find_among p xs z n t (λ y l. u y (inr l))
      ]
    ] in
    at (p x) refl

find_none : {X : Type 0} (p : X → Bool) (xs : List X) → ((y : X) → Among xs y → p y ≡ true → ⊥) → find p xs ≡ None
find_none p [] u = refl
find_none p (x ∷ xs) u =
    let at : (b : Bool) → p x ≡ b → cond b (Some x) (find p xs) ≡ None =
    λ b. elim b as (λ b. p x ≡ b → cond b (Some x) (find p xs) ≡ None) [
      | true ↦ λ e. absurd (u x (inl refl) e)
      | false ↦ λ e. find_none p xs (λ y l. u y (inr l))
    ] in
    at (p x) refl

find_from : {X : Type 0} (p : X → Bool) (xs : List X) → IsSome (find p xs) → (z : X) × Among xs z × (p z ≡ true)
find_from p [] h = absurd (cc)
find_from p (x ∷ xs) h =
    let at : (b : Bool) → p x ≡ b → IsSome (cond b (Some x) (find p xs)) → (z : _) × Among (x ∷ xs) z × (p z ≡ true) =
    λ b. elim b as (λ b. p x ≡ b → IsSome (cond b (Some x) (find p xs)) → (z : _) × Among (x ∷ xs) z × (p z ≡ true)) [
      | true ↦ λ e h. (x, inl refl, e)
      | false ↦ λ e h. let r = find_from p xs h in (r.0, inr r.1, r.2)
    ] in
    at (p x) refl h

un_not : (b : Bool) → not b ≡ true → b ≡ false
un_not b h = grind (arith, common_steps)

pub same_some : {X : Type 0} (o : Option X) (x y : X) → o ≡ Some x → o ≡ Some y → x ≡ y
same_some o x y e f = cc

-- it has this id
abbrev pub bears : ℕ → Stamped → Bool
bears id s = has_id id s.order

module _ (slots : List (Option Stamped)) (keys : List ℕ) (stamps : ℕ) (is : HasSoundSlots slots keys stamps) where
  -- orders with one id are at one key
  pub one_key : (i j : ℕ) (s t : Stamped) → slot_at slots i ≡ Some s → slot_at slots j ≡ Some t
      → s.order.id ≡ t.order.id → i ≡ j
  one_key i j s t f g e = sym (is.held i s f).key_is ∙ ap (λ n. slice_index keys (n - 1)) e ∙ (is.held j t g).key_is

  pub same_key : (i j : ℕ) (s t : Stamped) → slot_at slots i ≡ Some s → slot_at slots j ≡ Some t
      → s.order.id ≡ t.order.id → s ≡ t
  same_key i j s t f g e = same_some (slot_at slots j) s t (ap (slot_at slots) (sym (one_key i j s t f g e)) ∙ f) g

  has : (id : ℕ) (s : Stamped) → s.order.id ≡ id → bears id s ≡ true
  has id s e = grind (arith, nat_tests)

  -- the only order with the id
  pub bears-only : (key id : ℕ) (s : Stamped) → slot_at slots key ≡ Some s → s.order.id ≡ id → (y : Stamped)
      → Among (line_of slots) y → bears id y ≡ true → y ≡ s
  bears-only key id s at e y m t = grind (arith, common_steps, Among-line_from, one_key, eqb-true, same_some)

  pub find_by-found : (key id : ℕ) (s : Stamped) → slot_at slots key ≡ Some s → s.order.id ≡ id
      → find_by order_of id (line_of slots) ≡ Some s
  find_by-found key id s at e =
      find_among (bears id) (line_of slots) s (Among-line slots s (key, at)) (has id s e) (bears-only key id s at e)

  pub not_found : (id : ℕ) → IsNotAtKey slots keys id → find_by order_of id (line_of slots) ≡ None
  not_found id missing = grind (arith, common_steps, find_none, Among-line_from, eqb-true)

  -- an open order is at the key of its id
  pub IsOpenId-of_found : (line : List Stamped) → line_of slots ≡ line → (id : ℕ) → IsSome (find_by order_of id line)
      → IsOpenId slots keys id
  IsOpenId-of_found line is_line id some =
      let r = find_from (bears id) (line_of slots) (subst (λ l. IsSome (find_by order_of id l)) (sym is_line) some) in
      let h = Among-line_from slots r.0 r.1 in
      let held = is.held h.0 r.0 h.1 in
      let e : r.0.order.id ≡ id = eqb-true _ _ r.2 in
      let at : slice_index keys (id - 1) ≡ h.0 = ap (λ n. slice_index keys (n - 1)) (sym e) ∙ held.key_is in
      let above = held.id_above in
      let within = held.id_within in
      record {
        stamped = r.0;
        above = omega arith;
        within = omega arith;
        stands = ap (slot_at slots) at ∙ h.1;
        same_id =
            e;
      }

  -- what a look-up of its id finds
  pub found_in : (line : List Stamped) → line_of slots ≡ line → (key id : ℕ) (s : Stamped) → slot_at slots key ≡ Some s
      → s.order.id ≡ id → find_by order_of id line ≡ Some s
  found_in line is_line key id s at e = ap (find_by order_of id) (sym is_line) ∙ find_by-found key id s at e

  -- a look-up of the id of what is at a place finds it
  pub find_by-at_place : (line : List Stamped) → line_of slots ≡ line → (place : ℕ)
      → IfSome (slot_at slots place) (λ s. find_by order_of s.order.id line ≡ Some s)
  find_by-at_place line is_line place = grind (arith, common_steps, found_in)

  module _ (new : List (Option Stamped)) (key : ℕ) (others : (k : ℕ) → k ≢ key → slot_at new k ≡ slot_at slots k) where
    -- another order takes this key
    pub sound_put : (keys' : List ℕ) (stamps' : ℕ) (x : Stamped) → slot_at new key ≡ Some x
        → IsStoredAt keys' stamps' key x
        → ((k : ℕ) (s : Stamped) → IsStoredAt keys stamps k s → IsStoredAt keys' stamps' k s)
        → ((k : ℕ) (t : Stamped) → k ≢ key → slot_at slots k ≡ Some t → t.stamp ≢ x.stamp)
        → HasSoundSlots new keys' stamps'
    sound_put keys' stamps' x put held more fresh =
        record {
          held = λ k s e. elim (cases_eq k key) [
            | inl same ↦ grind (arith, common_steps, same_some)
            | inr differs ↦ more k s (is.held k s (sym (others k differs) ∙ e))
          ];
          apart = search (arith, cases_eq, same_some);
        }

    -- the key is given up
    pub sound_without : slot_at new key ≡ None → HasSoundSlots new keys stamps
    sound_without gone =
        let at : (k : ℕ) (s : Stamped) → slot_at new k ≡ Some s → slot_at slots k ≡ Some s =
        grind (arith, common_steps, cases_eq) in
        record { held = λ k s e. is.held k s (at k s e); apart = λ i j s t e f. is.apart i j s t (at i s e) (at j t f) }

    -- an order that comes last in time
    pub line-enter : (x : Stamped) → AreApart new → slot_at new key ≡ Some x → slot_at slots key ≡ None
        → x.stamp ≡ stamps → line_of new ≡ line_of slots ++ x ∷ []
    line-enter x apart put vacant last =
        line_is new apart (line_of slots ++ x ∷ [])
        (rising_push by_stamp (line_of slots) x (rising_line slots is.apart) (λ y m. let h =
        Among-line_from slots y m in is_less y.stamp x.stamp (let b = (is.held h.0 y h.1).stamp in omega arith)))
        (grind (arith, common_steps, cases_eq, Among-append_right, same_some, Among-append_left, Among-line))
        (grind (arith, common_steps, Among-append_from, Among-line_from))

    module _ (id : ℕ) (s : Stamped) (stood : slot_at slots key ≡ Some s) (named : s.order.id ≡ id) where
      -- another key has another id
      not_named : (k : ℕ) (z : Stamped) → k ≢ key → slot_at slots k ≡ Some z → bears id z ≡ false
      not_named k z differs e = grind (arith, common_steps, one_key, eqb-true)

      pub line-without : AreApart new → slot_at new key ≡ None → line_of new ≡ without_by order_of id (line_of slots)
      line-without apart gone =
          search (
            arith,
            line_is,
            rising_filter,
            rising_line,
            Among-filter,
            Among-line,
            not_named,
            Among-filter_from,
            Among-line_from,
          )

      pub line-changed : (change : Stamped → Stamped) → ((y : Stamped) → (change y).stamp ≡ y.stamp) → AreApart new
          → slot_at new key ≡ Some (change s) → line_of new ≡ changed_by order_of id change (line_of slots)
      line-changed change keeps apart put =
          let g : Stamped → Stamped = λ y. cond (bears id y) (change y) y in
          let same_stamp : (y : Stamped) → (g y).stamp ≡ y.stamp =
          λ y. elim (bears id y) as (λ b. (cond b (change y) y).stamp ≡ y.stamp) [
            | true ↦ keeps y
            | false ↦
                refl
          ] in
          let own : g s ≡ change s = ap (λ b. cond b (change s) s) (has id s named) in
          line_is new apart (changed_by order_of id change (line_of slots))
          (rising_map by_stamp g (λ x y. ap (λ n. nat_cmp n (g y).stamp) (same_stamp x)
          ∙ ap (nat_cmp x.stamp) (same_stamp y)) (line_of slots) (rising_line slots is.apart))
          (λ z h. elim (cases_eq h.0 key) [
            | inl same ↦
                let z_is : change s ≡ z =
                same_some (slot_at new key) (change s) z put (ap (slot_at new) (sym same) ∙ h.1) in
                subst (Among (map g (line_of slots))) (own ∙ z_is)
                (Among-map g (line_of slots) s (Among-line slots s (key, stood)))
            | inr differs ↦
                let old = sym (others h.0 differs) ∙ h.1 in
                let still : g z ≡ z = ap (λ b. cond b (change z) z) (not_named h.0 z differs old) in
                subst (Among (map g (line_of slots))) still
                (Among-map g (line_of slots) z (Among-line slots z (h.0, old)))
          ])
          (λ z m.
          let r = Among-map_from g (line_of slots) z m in
          let h = Among-line_from slots r.0 r.1 in
          elim (cases_eq h.0 key) [
            | inl same ↦
                let y_s : r.0 ≡ s = same_some (slot_at slots key) r.0 s (ap (slot_at slots) (sym same) ∙ h.1) stood in
                (key, put ∙ ap (λ y. Some y) (sym own ∙ ap g (sym y_s) ∙ r.2))
            | inr differs ↦
                let still : g r.0 ≡ r.0 = ap (λ b. cond b (change r.0) r.0) (not_named h.0 r.0 differs h.1) in
                (h.0, others h.0 differs ∙ h.1 ∙ ap (λ y. Some y) (sym still ∙ r.2))
          ])

      -- the one order with the id
      filtered : filter (bears id) (line_of slots) ≡ s ∷ []
      filtered =
          same_rising by_stamp by_stamp_total (filter (bears id) (line_of slots)) (s ∷ [])
          (rising_filter by_stamp (bears id) (line_of slots) (rising_line slots is.apart)) (tt, tt)
          (λ z m. let r = Among-filter_from (bears id) (line_of slots) z m in
          inl (sym (bears-only key id s stood named z r.0 r.1)))
          (grind (arith, common_steps, Among-filter, Among-line, has))

      -- it goes to the end, changed
      pub line-moved : (change : Stamped → Stamped) → AreApart new → slot_at new key ≡ Some (change s)
          → (change s).stamp ≡ stamps → line_of new ≡ moved_by order_of id change (line_of slots)
      line-moved change apart put last =
          let rest = without_by order_of id (line_of slots) in
          line_is new apart (rest ++ change s ∷ [])
          (rising_push by_stamp rest (change s)
          (rising_filter by_stamp (λ y. not (bears id y)) (line_of slots) (rising_line slots is.apart)) (λ y m.
          let h = Among-line_from slots y (Among-filter_from (λ y. not (bears id y)) (line_of slots) y m).0 in
          is_less y.stamp (change s).stamp (let b = (is.held h.0 y h.1).stamp in omega arith)))
          (grind (
            arith,
            common_steps,
            cases_eq,
            Among-append_right,
            same_some,
            Among-append_left,
            Among-filter,
            Among-line,
            not_named,
          ))
          (grind (arith, common_steps, Among-append_from, Among-filter_from, Among-line_from, un_not))
          ∙ ap (λ l. rest ++ map change l) (sym filtered)

-- a filter of changed elements, where it passes those that stay as they are
pub filter-map_agree : {X : Type 0} (p q : X → Bool) (g : X → X) (xs : List X)
    → ((y : X) → Among xs y → (p (g y) ≡ q y) × (q y ≡ true → g y ≡ y)) → filter p (map g xs) ≡ filter q xs
filter-map_agree p q g [] h = refl
filter-map_agree p q g (x ∷ xs) h =
    let more = filter-map_agree p q g xs (λ y m. h y (inr m)) in grind (arith, common_steps)

pub filter_all : {X : Type 0} (p : X → Bool) (xs : List X) → ((y : X) → Among xs y → p y ≡ true) → filter p xs ≡ xs
filter_all p [] h = refl
filter_all p (x ∷ xs) h =
    ap (λ b. cond b (x ∷ filter p xs) (filter p xs)) (h x (inl refl))
    ∙ ap (λ l. x ∷ l) (filter_all p xs (λ y m. h y (inr m)))

-- a new id is at the end of the keys
pub held_more : (keys : List ℕ) (last stamps stamps' k : ℕ) (s : Stamped) → stamps ≤ stamps'
    → IsStoredAt keys stamps k s → IsStoredAt (keys ++ last ∷ []) stamps' k s
held_more keys last stamps stamps' k s more held = grind (arith, common_steps, get_or_append_left)

pub held_later : (keys : List ℕ) (stamps stamps' k : ℕ) (s : Stamped) → stamps ≤ stamps' → IsStoredAt keys stamps k s
    → IsStoredAt keys stamps' k s
held_later keys stamps stamps' k s more held = grind (arith, common_steps)

sum-bounded : (m : ℕ) (xs : List Stamped) → ((y : Stamped) → Among xs y → y.order.quantity ≤ m)
    → open_quantity_of xs ≤ length xs * m
sum-bounded m [] h = omega arith
sum-bounded m (x ∷ xs) h =
    let first = h x (inl refl) in
    let more = sum-bounded m xs (λ y l. h y (inr l)) in grind (arith, common_steps, sum_by-cons)

-- what is open fits a number of 64 bits
pub sum-line : (slots : List (Option Stamped)) (keys : List ℕ) (stamps n : ℕ) → HasSoundSlots slots keys stamps
    → count_by is_some slots ≤ n → n ≤ MAX_OPEN_ORDERS → open_quantity_of (line_of slots) ≤ MAX_TOTAL
sum-line slots keys stamps n is few small =
    let each = sum-bounded MAX_QUANTITY (line_of slots) (λ y m. let h = Among-line_from slots y m in
    (is.held h.0 y h.1).bounded) in
    grind (arith, common_steps, length-line)

-- what holds of the order at the key of an id holds of the open order with that id, and the other way round
module _ {slots : List (Option Stamped)} {keys : List ℕ} {stamps : ℕ} {line : List Stamped} {id key : ℕ} {s : Stamped}
    (P : Stamped → Type 0) (is : HasSoundSlots slots keys stamps) (is_line : line_of slots ≡ line)
    (at : IsOrderAt slots id key s) where
  standing_found : find_by order_of id line ≡ Some s
  standing_found = found_in slots keys stamps is line is_line key id s at.stands at.same_id

  pub of_open : P s → IfSome (find_by order_of id line) P
  of_open h = subst (λ o. IfSome o P) (sym standing_found) h

  pub at_key : IfSome (find_by order_of id line) P → P s
  at_key h = subst (λ o. IfSome o P) standing_found h
