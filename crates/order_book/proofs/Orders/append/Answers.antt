-- Answers of `Orders::append` (src/lib.rt): what the prover left open; rt looks here.
use Rattle.std.proofs.Common.{◌≡◌, ◌+◌, ◌++◌, [], ◌∷◌, ap, ◌∙◌, refl, arith}
use Rattle.std.proofs.lemmas.Grind.{common_steps}
use Rattle.auction_terms.specs.declared.Order.{Order}
use Rattle.order_book.specs.Orders.{OrdersView, HasSoundSlots, line_of, with_last}
use Rattle.order_book.proofs.KeyLaws.{length-line}
use Rattle.order_book.proofs.ChangeLaws.{append-sound}
use Rattle.order_book.proofs.OrderlyLaws.{IsOrderly-line}
use Rattle.order_book.proofs.Orders.append.Goals as goal

pub insert_reserved-key-requires : goal.insert_reserved-key-requires
insert_reserved-key-requires c = grind (arith, common_steps, length-line)

both : (c : goal.After-self-1)
    → HasSoundSlots c.insert_reserved-key.new.self.slots c.push_reserved.new.self.items (c.self.inside.stamps + 1)
    × (line_of c.insert_reserved-key.new.self.slots ≡ line_of c.self.inside.orders.slots ++ record {
      order =
          c.with_id-order.result;
      stamp = c.self.inside.stamps;
    } ∷ [])
both c =
    let id : c.with_id-order.result.id ≡ c.len.result + 1 = ap (λ (o : Order). o.id) c.with_id-order.ensures in
    let quantity : c.with_id-order.result.quantity ≡ c.args.new.quantity =
    ap (λ (o : Order). o.quantity) c.with_id-order.ensures in
    append-sound (record {
      order = c.with_id-order.result;
      stamp = c.self.inside.stamps;
    }) (rw c.new-packed.ensures at c.insert_reserved-key.ensures.updates) c.self.invariant.0
    c.insert_reserved-key.ensures.was_vacant refl (omega arith) c.push_reserved.ensures.items (omega arith)
    (omega arith)

pub invariant_of-self : goal.invariant_of-self
invariant_of-self c = grind (arith, common_steps, both, length-line)

pub returns-clause-line : goal.returns-clause-line
returns-clause-line c = (both c).1 ∙ ap (λ (b : OrdersView). with_last b c.with_id-order.result) c.self.view_is

pub returns-clause-orderly : goal.returns-clause-orderly
returns-clause-orderly c = IsOrderly-line _ _ _ (both c).0
