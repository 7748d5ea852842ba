-- Orders put back into slots, one after the other.
use Rattle.std.specs.Prelude.{◌≡◌, ℕ, ◌+◌, ◌-◌, ◌<◌, List, Option, Some, None, slice_set}
use Rattle.slab.specs.Slab.{Slab, Updates, slab_len}
use Rattle.auction_terms.specs.declared.Stamped.{Stamped}
use Rattle.order_book.specs.Orders.{HasSoundSlots, slot_at}

-- the order is at a new key, which is written down as that of its id
pub record RestoresAt (s : Stamped) (old new : Slab Stamped) (keys keys' : List ℕ) : Type 0 where
  pub key : ℕ
  pub vacant : slot_at old.slots key ≡ None
  pub updates : Updates old new key (Some s)
  pub len : slab_len new ≡ slab_len old + 1
  pub written : keys' ≡ slice_set keys (s.order.id - 1) key

abbrev pub RestoresSlot : Option Stamped → Slab Stamped → Slab Stamped → List ℕ → List ℕ → Type 0
RestoresSlot None old new keys keys' = (new ≡ old) × (keys' ≡ keys)
RestoresSlot (Some s) old new keys keys' = RestoresAt s old new keys keys'

-- the orders at the first places are in the slots, and no others are
pub record AreRestored (from : List (Option Stamped)) (place stamps : ℕ) (slots : List (Option Stamped))
    (keys : List ℕ) : Type 0 where
  pub sound : HasSoundSlots slots keys stamps
  pub all : (p : ℕ) (s : Stamped) → p < place → slot_at from p ≡ Some s → (key : ℕ) × (slot_at slots key ≡ Some s)
  pub only : (key : ℕ) (s : Stamped) → slot_at slots key ≡ Some s
      → (p : ℕ) × ((p < place) × (slot_at from p ≡ Some s))
