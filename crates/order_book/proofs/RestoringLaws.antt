-- Orders that are put back into slots are the same line.
use Rattle.std.proofs.Common.{◌≡◌, ◌≢◌, inl, inr, ℕ, ◌+◌, ◌-◌, ◌<◌, ◌≤◌, List, length, Option, Some, None}
use Rattle.std.proofs.Common.{sym, ap, subst, ◌∙◌, arith, set, take}
use Rattle.std.proofs.Common.{length-append, count_by, is_some, IfSome}
use Rattle.std.specs.Option.{option_to_list}
use Rattle.std.proofs.lemmas.Bool.{cases_eq, cases_lt}
use Rattle.std.proofs.lemmas.List.{get_or_past, get_or-set_other, get_or-set_same, length-set}
use Rattle.slab.specs.Slab.{HasRoomFor, Slab, slab_len}
use Rattle.auction_terms.specs.declared.Stamped.{Stamped}
use Rattle.order_book.specs.Orders.{HasSoundSlots, IsStoredAt, line_of, present, slot_at}
use Rattle.order_book.specs.Restoring.{AreRestored, RestoresSlot, RestoresAt}
use Rattle.order_book.proofs.KeyLaws.{length-present, one_key, same_some}
use Rattle.order_book.proofs.LineLaws.{Among-line, Among-line_from, line_is, rising_line}
use Rattle.order_book.proofs.WalkLaws.{present_few, present_more}

none_is_some : {X : Type 0} (o : Option X) (x : X) → o ≡ None → o ≡ Some x → ⊥
none_is_some o x e f = cc

-- the key of another id stays written
other_key : (keys : List ℕ) (stamps key id k : ℕ) (s : Stamped) → 0 < id → s.order.id ≢ id → IsStoredAt keys stamps k s
    → IsStoredAt (set keys (id - 1) key) stamps k s
other_key keys stamps key id k s above differs held =
    let below = held.id_above in
    let within = held.id_within in
    let ne : s.order.id - 1 ≢ id - 1 = omega arith in
    record {
      id_above = held.id_above;
      id_within = omega (arith, within, length-set keys (id - 1) key);
      key_is = get_or-set_other keys (id - 1) (s.order.id - 1) key 0 ne ∙ held.key_is;
      stamp = held.stamp;
      positive = held.positive;
      bounded = held.bounded;
    }

own_key : (keys from_keys : List ℕ) (stamps key place : ℕ) (x : Stamped) → length keys ≡ length from_keys
    → IsStoredAt from_keys stamps place x → IsStoredAt (set keys (x.order.id - 1) key) stamps key x
own_key keys from_keys stamps key place x same held =
    let above = held.id_above in
    let within = held.id_within in
    let lt : x.order.id - 1 < length keys = omega arith in
    record {
      id_above = held.id_above;
      id_within = omega (arith, within, length-set keys (x.order.id - 1) key);
      key_is = get_or-set_same keys (x.order.id - 1) key 0 lt;
      stamp = held.stamp;
      positive = held.positive;
      bounded = held.bounded;
    }

add-zero : (n : ℕ) → n + 0 ≡ n
add-zero n = omega arith

module _ (from : List (Option Stamped)) (from_keys : List ℕ) (stamps : ℕ)
    (source : HasSoundSlots from from_keys stamps) where
  -- an order at an earlier place is another one
  other_place : (p place : ℕ) (s x : Stamped) → p < place → slot_at from p ≡ Some s → slot_at from place ≡ Some x
      → (s.order.id ≢ x.order.id) × (s.stamp ≢ x.stamp)
  other_place p place s x earlier at there = (
    λ same. let e = one_key from from_keys stamps source p place s x at there same in omega arith,
    λ same. let e = source.apart p place s x at there same in omega arith,
  )

  module _ {old new : Slab Stamped} {keys keys' : List ℕ} (place : ℕ) (x : Stamped)
      (is : AreRestored from place stamps old.slots keys) (long : length keys ≡ length from_keys)
      (stands : slot_at from place ≡ Some x) (put : RestoresAt x old new keys keys') where
    above : 0 < x.order.id
    above = (source.held place x stands).id_above

    held_more : (k : ℕ) (s : Stamped) → slot_at new.slots k ≡ Some s → IsStoredAt keys' stamps k s
    held_more k s e =
        subst (λ l. IsStoredAt l stamps k s) (sym put.written) (elim (cases_eq k put.key) [
          | inl same ↦
              let x_s : x ≡ s =
              same_some (slot_at new.slots k) x s (ap (slot_at new.slots) same ∙ put.updates.changed) e in
              subst (λ n. IsStoredAt (set keys (x.order.id - 1) put.key) stamps n s) (sym same)
              (subst (λ y. IsStoredAt (set keys (x.order.id - 1) put.key) stamps put.key y) x_s
              (own_key keys from_keys stamps put.key place x long (source.held place x stands)))
          | inr differs ↦
              let stood = sym (put.updates.others k differs) ∙ e in
              let came = is.only k s stood in
              other_key keys stamps put.key x.order.id k s above
              (other_place came.0 place s x came.1.0 came.1.1 stands).0 (is.sound.held k s stood)
        ])

    -- what is at another key came from an earlier place
    apart_from_new : (k : ℕ) (s : Stamped) → k ≢ put.key → slot_at new.slots k ≡ Some s → s.stamp ≢ x.stamp
    apart_from_new k s differs e =
        let came = is.only k s (sym (put.updates.others k differs) ∙ e) in
        (other_place came.0 place s x came.1.0 came.1.1 stands).1

    new_is : (k : ℕ) (s : Stamped) → k ≡ put.key → slot_at new.slots k ≡ Some s → x ≡ s
    new_is k s same e = same_some (slot_at new.slots k) x s (ap (slot_at new.slots) same ∙ put.updates.changed) e

    apart_more : (i j : ℕ) (s t : Stamped) → slot_at new.slots i ≡ Some s → slot_at new.slots j ≡ Some t
        → s.stamp ≡ t.stamp → i ≡ j
    apart_more i j s t e f same =
        elim (cases_eq i put.key) [
          | inl here ↦ elim (cases_eq j put.key) [
            | inl there ↦ here ∙ sym there
            | inr differs ↦
                absurd (apart_from_new j t differs f (sym same
                ∙ ap (λ (y : Stamped). y.stamp) (sym (new_is i s here e))))
          ]
          | inr differs ↦ elim (cases_eq j put.key) [
            | inl there ↦
                absurd (apart_from_new i s differs e (same ∙ ap (λ (y : Stamped). y.stamp) (sym (new_is j t there f))))
            | inr elsewhere ↦
                is.sound.apart i j s t (sym (put.updates.others i differs) ∙ e)
                (sym (put.updates.others j elsewhere) ∙ f) same
          ]
        ]

    all_more : (p : ℕ) (s : Stamped) → p < place + 1 → slot_at from p ≡ Some s
        → (key : ℕ) × (slot_at new.slots key ≡ Some s)
    all_more p s within at =
        elim (cases_eq p place) [
          | inl here ↦
              let x_s : x ≡ s = same_some (slot_at from p) x s (ap (slot_at from) here ∙ stands) at in
              (put.key, put.updates.changed ∙ ap (λ y. Some y) x_s)
          | inr differs ↦
              let stood = is.all p s (omega arith) at in
              let ne : stood.0 ≢ put.key = λ same. none_is_some (slot_at old.slots put.key) s put.vacant
              (ap (slot_at old.slots) (sym same) ∙ stood.1) in
              (stood.0, put.updates.others stood.0 ne ∙ stood.1)
        ]

    only_more : (key : ℕ) (s : Stamped) → slot_at new.slots key ≡ Some s
        → (p : ℕ) × ((p < place + 1) × (slot_at from p ≡ Some s))
    only_more k s e =
        elim (cases_eq k put.key) [
          | inl same ↦ (place, (omega arith, stands ∙ ap (λ y. Some y) (new_is k s same e)))
          | inr differs ↦
              let came = is.only k s (sym (put.updates.others k differs) ∙ e) in
              let earlier = came.1.0 in
              (came.0, (omega arith, came.1.1))
        ]

    restored_one : AreRestored from (place + 1) stamps new.slots keys'
    restored_one = record {
      sound = record { held = held_more; apart = apart_more };
      all = all_more;
      only = only_more;
    }

  restored_none : (slots : List (Option Stamped)) (keys : List ℕ) (place : ℕ) → AreRestored from place stamps slots keys
      → slot_at from place ≡ None → AreRestored from (place + 1) stamps slots keys
  restored_none slots keys place is empty = record {
    sound = is.sound;
    all = λ p s within at. elim (cases_eq p place) [
      | inl here ↦ absurd (none_is_some (slot_at from p) s (ap (slot_at from) here ∙ empty) at)
      | inr differs ↦ is.all p s (omega arith) at
    ];
    only = λ key s e. let came = is.only key s e in let earlier = came.1.0 in (came.0, (omega arith, came.1.1));
  }

  -- one more place
  pub restored_more : (old new : Slab Stamped) (keys keys' : List ℕ) (place : ℕ) (found : Option Stamped)
      → AreRestored from place stamps old.slots keys → length keys ≡ length from_keys → found ≡ slot_at from place
      → RestoresSlot found old new keys keys' → AreRestored from (place + 1) stamps new.slots keys'
  restored_more old new keys keys' place None is long at done =
      subst (λ l. AreRestored from (place + 1) stamps l keys') (ap (λ (o : Slab Stamped). o.slots) (sym done.0))
      (subst (λ l. AreRestored from (place + 1) stamps old.slots l) (sym done.1)
      (restored_none old.slots keys place is (sym at)))
  restored_more old new keys keys' place (Some x) is long at done =
      restored_one {old = old} {new = new} {keys = keys} {keys' = keys'} place x is long (sym at) done

  -- an order that is put back has an id that was given out
  pub may_restore : (keys : List ℕ) (place : ℕ) (found : Option Stamped) → length keys ≡ length from_keys
      → found ≡ slot_at from place → IfSome found (λ s. (0 < s.order.id) × (s.order.id ≤ length keys))
  may_restore keys place None long at = tt
  may_restore keys place (Some x) long at =
      let held = source.held place x (sym at) in
      let within = held.id_within in
      (held.id_above, omega arith)

  -- all places
  pub restored_line : (slots : List (Option Stamped)) (keys : List ℕ) (place : ℕ)
      → AreRestored from place stamps slots keys → length from ≤ place → line_of slots ≡ line_of from
  restored_line slots keys place is all =
      line_is slots is.sound.apart (line_of from) (rising_line from source.apart)
      (λ z h. let came = is.only h.0 z h.1 in Among-line from z (came.0, came.1.1))
      (λ z m.
      let h = Among-line_from from z m in
      elim (cases_lt h.0 place) [
        | inl within ↦ is.all h.0 z within h.1
        | inr past ↦
            absurd (none_is_some (slot_at from h.0) z (get_or_past from h.0 None (omega arith)) h.1)
      ])

-- ---- how many there are

-- there is room for one more, where there is for all
pub has_room : (from : List (Option Stamped)) (place : ℕ) (orders : Slab Stamped) (found : Option Stamped)
    → found ≡ slot_at from place → slab_len orders ≡ length (present (take place from))
    → count_by is_some from ≤ orders.capacity → IfSome found (λ s. HasRoomFor orders 1)
has_room from place orders None at len room = tt
has_room from place orders (Some x) at len room =
    let more : length (present (take (place + 1) from)) ≡ length (present (take place from)) + 1 =
    ap length (present_more from place)
    ∙ length-append (present (take place from)) (option_to_list (slot_at from place))
    ∙ ap (λ o. length (present (take place from)) + length (option_to_list o)) (sym at) in
    omega (arith, more, present_few from (place + 1), length-present from)

pub len_more : (from : List (Option Stamped)) (place : ℕ) (old new : Slab Stamped) (keys keys' : List ℕ)
    (found : Option Stamped) → found ≡ slot_at from place → RestoresSlot found old new keys keys'
    → slab_len old ≡ length (present (take place from)) → slab_len new ≡ length (present (take (place + 1) from))
len_more from place old new keys keys' None at done len =
    ap slab_len done.0 ∙ len
    ∙ sym (ap length (present_more from place)
    ∙ length-append (present (take place from)) (option_to_list (slot_at from place))
    ∙ ap (λ o. length (present (take place from)) + length (option_to_list o)) (sym at)
    ∙ add-zero (length (present (take place from))))
len_more from place old new keys keys' (Some x) at done len =
    done.len ∙ ap (λ n. n + 1) len
    ∙ sym (ap length (present_more from place)
    ∙ length-append (present (take place from)) (option_to_list (slot_at from place))
    ∙ ap (λ o. length (present (take place from)) + length (option_to_list o)) (sym at))

pub keys_long : (old new : Slab Stamped) (keys keys' : List ℕ) (found : Option Stamped)
    → RestoresSlot found old new keys keys' → length keys' ≡ length keys
keys_long old new keys keys' None done = ap length done.1
keys_long old new keys keys' (Some x) done = ap length done.written ∙ length-set keys (x.order.id - 1) done.key

-- no more are put back than there were
pub restored_few : (from : List (Option Stamped)) (place : ℕ)
    → length (present (take place from)) ≤ count_by is_some from
restored_few from place = omega (arith, present_few from place, length-present from)
