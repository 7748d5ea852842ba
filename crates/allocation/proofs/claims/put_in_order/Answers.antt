-- Answers of `put_in_order` (src/claims.rt): what the prover left open; rt looks here.
use Rattle.std.proofs.Common.{rules, subst}
use Rattle.std.proofs.lemmas.List.Sorted.{answers_always}
use Rattle.allocation.specs.Claim.{AreInOrder}
use Rattle.allocation.proofs.ClaimLaws.{in_order_if}
use Rattle.allocation.proofs.claims.put_in_order.Goals as goal

pub returns-then-not-is_sorted_by_key-clause-in_order :
    goal.returns-then-not-is_sorted_by_key-clause-in_order
returns-then-not-is_sorted_by_key-clause-in_order c =
    c.sort_unstable_by_key.ensures.sorted (λ claim. claim.rank) (answers_always _ _ _ (λ f a r g h. search rules))

pub returns-else-not-is_sorted_by_key-clause-in_order :
    goal.returns-else-not-is_sorted_by_key-clause-in_order
returns-else-not-is_sorted_by_key-clause-in_order c =
    let told =
    c.is_sorted_by_key.ensures.cases (λ claim. claim.rank) (answers_always _ _ _ (λ f a r g h. search rules)) in
    subst AreInOrder c.deref.ensures.value
    (in_order_if c.deref.result.now c.is_sorted_by_key.result told c.if-not-is_sorted_by_key.false)
