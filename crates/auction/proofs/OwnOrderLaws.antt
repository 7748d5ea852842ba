-- A member's own order is open.
use Rattle.std.proofs.Common.{◌≡◌, ℕ, List, arith}
use Rattle.std.specs.Prelude.{Ok, IfOk, ok_or}
use Rattle.std.proofs.lemmas.Grind.{common_steps}
use Rattle.auction_terms.specs.declared.Order.{Order}
use Rattle.auction_terms.specs.declared.Refusal.{Refusal}
use Rattle.auction_terms.specs.Edits.{order_with}
use Rattle.auction_terms.specs.Day.{owned_by}
use Rattle.auction_terms.proofs.EditLaws.{found_id}
use Rattle.auction.specs.OpenOrders.{IsOpenIn}

pub own_is_open : (member id : ℕ) (book : List Order) (reason : Refusal)
    → IfOk (ok_or (owned_by member (order_with id book)) reason) (IsOpenIn book)
own_is_open member id book reason = grind (arith, common_steps, found_id)

pub own_id : (member id : ℕ) (book : List Order) (reason : Refusal) (o : Order)
    → ok_or (owned_by member (order_with id book)) reason ≡ Ok o → o.id ≡ id
own_id member id book reason o e = grind (arith, common_steps, found_id)
