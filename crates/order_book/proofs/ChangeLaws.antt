-- What a new order, a removal, a change in place and a move to the end make of the book.
use Rattle.std.proofs.Common.{◌≡◌, ◌≢◌, ℕ, ◌+◌, ◌-◌, ◌<◌, ◌≤◌, Bool, true, false, not, cond, List, [], ◌∷◌, ◌++◌}
use Rattle.std.proofs.Common.{length, ap, sym, subst, ◌∙◌, refl, arith, Some, None, Option, nat_lt, slice_index, IfSome}
use Rattle.std.proofs.lemmas.Bool.Decides.{nat_tests}
use Rattle.std.proofs.lemmas.List.{get_or_at, length_push}
use Rattle.slab.specs.Slab.{Slab, Updates}
use Rattle.auction_terms.specs.declared.limits.TheConstants.{MAX_QUANTITY}
use Rattle.auction_terms.specs.declared.Stamped.{Stamped}
use Rattle.auction_terms.specs.Edits.{without_by, changed_by, less_quantity}
use Rattle.auction_terms.specs.Auxiliary.OrderLists.{moved_by, left_by}
use Rattle.auction_terms.specs.Auxiliary.StampedOrders.{order_of, on_order}
use Rattle.order_book.specs.Orders.{HasSoundSlots, IsStoredAt, IsOrderAt, slot_at, line_of}
use Rattle.order_book.proofs.LineLaws.{Among-line_from}
use Rattle.order_book.proofs.KeyLaws.{bears, sound_put, sound_without, held_more, held_later, line-enter, line-without}
use Rattle.order_book.proofs.KeyLaws.{line-changed, line-moved, filter_all, filter-map_agree, bears-only, one_key}

pub append-sound : {old new : Slab Stamped} {keys keys' : List ℕ} {stamps key : ℕ} (x : Stamped)
    → Updates old new key (Some x) → HasSoundSlots old.slots keys stamps → slot_at old.slots key ≡ None
    → x.stamp ≡ stamps
    → x.order.id ≡ length keys + 1 → keys' ≡ keys ++ key ∷ [] → 0 < x.order.quantity → x.order.quantity ≤ MAX_QUANTITY
    → HasSoundSlots new.slots keys' (stamps + 1) × (line_of new.slots ≡ line_of old.slots ++ x ∷ [])
append-sound {old} {new} {keys} {keys'} {stamps} {key} x writes is vacant last numbered grown positive bounded =
    let longer : length keys' ≡ length keys + 1 = ap length grown ∙ length_push keys key in
    let at : x.order.id - 1 ≡ length keys = omega arith in
    let key_is : slice_index keys' (x.order.id - 1) ≡ key =
    ap (slice_index keys') at ∙ ap (λ l. slice_index l (length keys)) grown
    ∙ get_or_at keys key [] 0 (length keys) refl in
    let held : IsStoredAt keys' (stamps + 1) key x = record {
      id_above = omega arith;
      id_within = omega arith;
      key_is =
          key_is;
      stamp = omega arith;
      positive = positive;
      bounded = bounded;
    } in
    let sound = sound_put old.slots keys stamps is new.slots key writes.others keys' (stamps + 1) x writes.changed held
    (λ k s h. subst (λ l. IsStoredAt l (stamps + 1) k s) (sym grown)
    (held_more keys key stamps (stamps + 1) k s (omega arith) h))
    (λ k t differs e same. let b = (is.held k t e).stamp in omega arith) in
    (sound, line-enter old.slots keys stamps is new.slots key writes.others x sound.apart writes.changed vacant last)

-- a key that has the order with an id is written
module _ {old new : Slab Stamped} {keys : List ℕ} {stamps id key : ℕ} {s : Stamped} {slot : Option Stamped}
    (writes : Updates old new key slot) (is : HasSoundSlots old.slots keys stamps)
    (at : IsOrderAt old.slots id key s) where
  pub delete-sound : slot ≡ None → HasSoundSlots new.slots keys stamps
      × (line_of new.slots ≡ without_by order_of id (line_of old.slots))
  delete-sound none =
      let gone = writes.changed ∙ none in
      let sound = sound_without old.slots keys stamps is new.slots key writes.others gone in (
        sound,
        line-without old.slots keys stamps is new.slots key writes.others id s at.stands at.same_id sound.apart
            gone,
      )

  -- what is there afterwards was there before, and has another id
  pub gone_at : slot ≡ None → (place : ℕ)
      → IfSome (slot_at new.slots place) (λ t. (slot_at old.slots place ≡ Some t) × (t.order.id ≢ id))
  gone_at none place =
      let gone = writes.changed ∙ none in
      let others = writes.others in
      let stood = at.stands in
      let named = at.same_id in
      search (arith, one_key)

  -- what is written has the id, and is good
  held_here : (stamps' : ℕ) (x : Stamped) → x.order.id ≡ s.order.id → x.stamp < stamps' → 0 < x.order.quantity
      → x.order.quantity ≤ MAX_QUANTITY → IsStoredAt keys stamps' key x
  held_here stamps' x same_id below positive bounded =
      let was = is.held key s at.stands in
      let above = was.id_above in
      let within = was.id_within in
      record {
        id_above = omega arith;
        id_within = omega arith;
        key_is = ap (λ n. slice_index keys (n - 1)) same_id ∙ was.key_is;
        stamp = below;
        positive = positive;
        bounded = bounded;
      }

  pub change-sound : (change : Stamped → Stamped) → ((y : Stamped) → (change y).stamp ≡ y.stamp)
      → ((y : Stamped) → (change y).order.id ≡ y.order.id) → 0 < (change s).order.quantity
      → (change s).order.quantity ≤ MAX_QUANTITY → slot ≡ Some (change s) → HasSoundSlots new.slots keys stamps
      × (line_of new.slots ≡ changed_by order_of id change (line_of old.slots))
  change-sound change keeps names positive bounded here =
      let put = writes.changed ∙ here in
      let stamp = (is.held key s at.stands).stamp in
      let same_stamp = keeps s in
      let held = held_here stamps (change s) (names s) (omega arith) positive bounded in
      let sound =
      sound_put old.slots keys stamps is new.slots key writes.others keys stamps (change s) put held (λ k t h. h)
      (λ k t differs e same. differs (is.apart k key t s e at.stands (same ∙ same_stamp))) in (
        sound,
        line-changed old.slots keys stamps is new.slots key writes.others id s at.stands at.same_id change keeps
            sound.apart put,
      )

  pub move-sound : (change : Stamped → Stamped) → (change s).stamp ≡ stamps → (change s).order.id ≡ s.order.id
      → 0 < (change s).order.quantity → (change s).order.quantity ≤ MAX_QUANTITY → slot ≡ Some (change s)
      → HasSoundSlots new.slots keys (stamps + 1)
      × (line_of new.slots ≡ moved_by order_of id change (line_of old.slots))
  move-sound change last same_id positive bounded here =
      let put = writes.changed ∙ here in
      let held = held_here (stamps + 1) (change s) same_id (omega arith) positive bounded in
      let sound = sound_put old.slots keys stamps is new.slots key writes.others keys (stamps + 1) (change s) put held
      (λ k t h. held_later keys stamps (stamps + 1) k t (omega arith) h)
      (λ k t differs e same. let b = (is.held k t e).stamp in omega arith) in (
        sound,
        line-moved old.slots keys stamps is new.slots key writes.others id s at.stands at.same_id change
            sound.apart put last,
      )

  is_more : (n : ℕ) → 0 < n → nat_lt 0 n ≡ true
  is_more n h = grind (arith, nat_tests)

  is_none : (n : ℕ) → n ≡ 0 → nat_lt 0 n ≡ false
  is_none n h = grind (arith, nat_tests)

  -- nothing is left of it, so it goes
  pub used_up : (quantity : ℕ) → s.order.quantity ≡ quantity → slot ≡ None → HasSoundSlots new.slots keys stamps
      × (line_of new.slots
      ≡ left_by order_of (changed_by order_of id (on_order (less_quantity quantity)) (line_of old.slots)))
  used_up quantity all none =
      let both = delete-sound none in
      let less : Stamped → Stamped = on_order (less_quantity quantity) in
      let g : Stamped → Stamped = λ y. cond (bears id y) (less y) y in
      let p : Stamped → Bool = λ y. nat_lt 0 y.order.quantity in
      let q : Stamped → Bool = λ y. not (bears id y) in (
        both.0,
        both.1 ∙ sym (filter-map_agree p q g (line_of old.slots) (λ y m.
            let h = Among-line_from old.slots y m in
            let positive = (is.held h.0 y h.1).positive in
            let at_test : (b : Bool) → bears id y ≡ b → (p (cond b (less y) y) ≡ not b)
            × (not b ≡ true → cond b (less y) y ≡ y) =
            λ b. elim b as (λ b. bears id y ≡ b → (p (cond b (less y) y) ≡ not b)
            × (not b ≡ true → cond b (less y) y ≡ y)) [
              | true ↦ λ e. (
                let y_s = bears-only old.slots keys stamps is key id s at.stands at.same_id y m e in
                    let amount : y.order.quantity ≡ s.order.quantity = ap (λ (z : Stamped). z.order.quantity) y_s in
                    is_none (y.order.quantity - quantity) (omega arith),
                λ t. absurd (cc),
              )
              | false ↦ λ e. (is_more y.order.quantity positive, λ t. refl)
            ] in
            at_test (bears id y) refl)),
      )

  -- something is left of it, as of all others
  pub reduce-sound : (quantity : ℕ) → quantity < s.order.quantity → slot ≡ Some (on_order (less_quantity quantity) s)
      → HasSoundSlots new.slots keys stamps
      × (line_of new.slots
      ≡ left_by order_of (changed_by order_of id (on_order (less_quantity quantity)) (line_of old.slots)))
  reduce-sound quantity some here =
      let bounded = (is.held key s at.stands).bounded in
      let both =
      change-sound (on_order (less_quantity quantity)) (λ y. refl) (λ y. refl) (omega arith) (omega arith) here in
      let all = filter_all (λ (y : Stamped). nat_lt 0 y.order.quantity) (line_of new.slots) (λ y m. let h =
      Among-line_from new.slots y m in is_more y.order.quantity (both.0.held h.0 y h.1).positive) in
      (both.0, sym all ∙ ap (left_by order_of) both.1)
