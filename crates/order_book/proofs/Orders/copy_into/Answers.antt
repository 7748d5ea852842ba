-- Answers of `Orders::copy_into` (src/refilling.rt): what the prover left open; rt looks here.
use Rattle.std.proofs.Common.{◌≡◌, ◌≤◌, ℕ, List, length, count_by, is_some, sym, ap, subst, ◌∙◌, arith}
use Rattle.auction_terms.specs.declared.Stamped.{Stamped}
use Rattle.order_book.specs.Orders.{HasSoundSlots, OrdersView, line_of, slot_at}
use Rattle.order_book.proofs.RestoringLaws.{has_room, keys_long, len_more, may_restore, restored_few, restored_line}
use Rattle.order_book.proofs.RestoringLaws.{restored_more}
use Rattle.order_book.proofs.Orders.copy_into.Goals as goal

pub restore-requires-clause-room : goal.restore-requires-clause-room
restore-requires-clause-room c =
    let found =
    c.copied.ensures ∙ c.get.ensures ∙ ap (λ (o : OrdersView). slot_at o.slots c.loop-place.place) c.self.view_is in
    let same_open =
    ap (λ (o : OrdersView). o.max_open) c.other.view_is ∙ c.requires.0
    ∙ sym (ap (λ (o : OrdersView). o.max_open) c.self.view_is) in
    let few =
    subst (λ (o : OrdersView). count_by is_some o.slots ≤ c.self.inside.max_open) c.self.view_is
    c.self.invariant.1.few in
    has_room c.args.self.now.slots c.loop-place.place c.loop-place.orders c.copied.result found
    c.loop-place.invariant.len
    (omega (
      arith,
      few,
      same_open,
      c.other.invariant.1.capacity,
      c.clear.ensures.capacity,
      c.loop-place.invariant.capacity,
    ))

pub restore-requires-clause-within : goal.restore-requires-clause-within
restore-requires-clause-within c =
    let sound =
    subst (λ (o : OrdersView). HasSoundSlots o.slots c.self.inside.keys.items o.stamps) c.self.view_is
    c.self.invariant.0 in
    let entered = sym (ap (λ (o : OrdersView). o.entered) c.self.view_is) in
    let found =
    c.copied.ensures ∙ c.get.ensures ∙ ap (λ (o : OrdersView). slot_at o.slots c.loop-place.place) c.self.view_is in
    may_restore c.args.self.now.slots c.self.inside.keys.items c.args.self.now.stamps sound c.loop-place.keys.items
    c.loop-place.place c.copied.result (c.loop-place.invariant.ids ∙ entered) found

pub loop-place-preserved : goal.loop-place-preserved
loop-place-preserved c =
    let sound =
    subst (λ (o : OrdersView). HasSoundSlots o.slots c.self.inside.keys.items o.stamps) c.self.view_is
    c.self.invariant.0 in
    let entered = sym (ap (λ (o : OrdersView). o.entered) c.self.view_is) in
    let found =
    c.copied.ensures ∙ c.get.ensures ∙ ap (λ (o : OrdersView). slot_at o.slots c.loop-place.place) c.self.view_is in
    let done = c.restore.ensures.restored in
    record {
      restored =
          restored_more c.args.self.now.slots c.self.inside.keys.items c.args.self.now.stamps sound c.loop-place.orders
          c.restore.new.orders c.loop-place.keys.items c.restore.new.keys.items c.loop-place.place c.copied.result
          c.loop-place.invariant.restored (c.loop-place.invariant.ids ∙ entered) found done;
      len =
          len_more c.args.self.now.slots c.loop-place.place c.loop-place.orders c.restore.new.orders
          c.loop-place.keys.items c.restore.new.keys.items c.copied.result found done c.loop-place.invariant.len;
      ids =
          keys_long c.loop-place.orders c.restore.new.orders c.loop-place.keys.items c.restore.new.keys.items
          c.copied.result done ∙ c.loop-place.invariant.ids;
      capacity = c.restore.ensures.slots ∙ c.loop-place.invariant.capacity;
      room = c.restore.ensures.room ∙ c.loop-place.invariant.room;
    }

pub invariant_of-other : goal.invariant_of-other
invariant_of-other c =
    let entered = sym (ap (λ (o : OrdersView). o.entered) c.self.view_is) in
    let same_open =
    ap (λ (o : OrdersView). o.max_open) c.other.view_is ∙ c.requires.0
    ∙ sym (ap (λ (o : OrdersView). o.max_open) c.self.view_is) in
    let same_calls =
    ap (λ (o : OrdersView). o.max_calls) c.other.view_is ∙ c.requires.1
    ∙ sym (ap (λ (o : OrdersView). o.max_calls) c.self.view_is) in
    let few =
    subst (λ (o : OrdersView). count_by is_some o.slots ≤ c.self.inside.max_open) c.self.view_is
    c.self.invariant.1.few in
    let is = c.loop-place.invariant in
    let stamps = sym (ap (λ (o : OrdersView). o.stamps) c.self.view_is) in (
      subst (λ n. HasSoundSlots c.loop-place.orders.slots c.loop-place.keys.items n) stamps is.restored.sound,
      record {
        few = omega (arith, is.len, restored_few c.args.self.now.slots c.loop-place.place, few, same_open);
        small = c.other.invariant.1.small;
        capacity = omega (arith, c.other.invariant.1.capacity, c.clear.ensures.capacity, is.capacity);
        keyed = omega (arith, c.other.invariant.1.keyed, c.clear.ensures.capacity, is.capacity);
        ids = omega (arith, is.ids, entered, c.self.invariant.1.ids);
        calls = omega (arith, c.self.invariant.1.calls, same_calls);
        keys_room = omega (arith, c.other.invariant.1.keys_room, c.copy_keys.ensures.capacity, is.room);
        few_calls = c.other.invariant.1.few_calls;
      },
    )

pub returns : goal.returns
returns c =
    let sound =
    subst (λ (o : OrdersView). HasSoundSlots o.slots c.self.inside.keys.items o.stamps) c.self.view_is
    c.self.invariant.0 in
    let same_open =
    ap (λ (o : OrdersView). o.max_open) c.other.view_is ∙ c.requires.0
    ∙ sym (ap (λ (o : OrdersView). o.max_open) c.self.view_is) in
    let same_calls =
    ap (λ (o : OrdersView). o.max_calls) c.other.view_is ∙ c.requires.1
    ∙ sym (ap (λ (o : OrdersView). o.max_calls) c.self.view_is) in
    let is = c.loop-place.invariant in
    let slots = c.loop-place.orders.slots in
    let now = c.args.self.now in
    let long : length c.self.inside.orders.slots ≤ c.loop-place.place =
    omega (arith, c.capacity-place-end.ensures.slots, c.loop-place-test.false) in
    let all = subst (λ (o : OrdersView). length o.slots ≤ c.loop-place.place) c.self.view_is long in
    let line : line_of slots ≡ now.line =
    restored_line now.slots c.self.inside.keys.items now.stamps sound slots c.loop-place.keys.items c.loop-place.place
    is.restored all
    ∙ subst (λ (o : OrdersView). line_of o.slots ≡ now.line) c.self.view_is
    (ap (λ (o : OrdersView). o.line) c.self.view_is) in
    let stamps : c.self.inside.stamps ≡ now.stamps = ap (λ (o : OrdersView). o.stamps) c.self.view_is in
    let most : c.other.inside.max_open ≡ now.max_open =
    same_open ∙ ap (λ (o : OrdersView). o.max_open) c.self.view_is in
    let calls : c.other.inside.max_calls ≡ now.max_calls =
    same_calls ∙ ap (λ (o : OrdersView). o.max_calls) c.self.view_is in
    let made : List Stamped → ℕ → ℕ → ℕ → ℕ → OrdersView = λ l s e o m.
    record { line = l; slots = slots; stamps = s; entered = e; max_open = o; max_calls = m } in
    let last = c.loop-place.keys.items in
    ap (λ l. made l c.self.inside.stamps (length last) c.other.inside.max_open c.other.inside.max_calls) line
    ∙ ap (λ s. made now.line s (length last) c.other.inside.max_open c.other.inside.max_calls) stamps
    ∙ ap (λ e. made now.line now.stamps e c.other.inside.max_open c.other.inside.max_calls) is.ids
    ∙ ap (λ o. made now.line now.stamps now.entered o c.other.inside.max_calls) most
    ∙ ap (λ m. made now.line now.stamps now.entered now.max_open m) calls
