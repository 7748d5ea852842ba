-- Answers of `in_priority` (src/listing.rt): what the prover left open; rt looks here.
use Rattle.std.proofs.Common.{◌≡◌, rules, subst, sym, arith}
use Rattle.std.proofs.lemmas.Grind.{common_steps}
use Rattle.std.proofs.lemmas.List.Sorted.{answers_always}
use Rattle.order_book.specs.Orders.{PassesAllOrders}
use Rattle.allocation.proofs.ClaimLaws.{narrow_more}
use Rattle.allocation.proofs.ListingLaws.{ranked_more, listed_in_priority}
use Rattle.allocation.proofs.listing.in_priority.Goals as goal

pub loop-place-preserved : goal.loop-place-preserved
loop-place-preserved c = grind (arith, common_steps, ranked_more, narrow_more)

pub returns : goal.returns
returns c =
    let ended : c.loop-place.place ≡ c.places-place-end.result = omega arith in
    listed_in_priority c.args.listed c.args.orders.now c.loop-place.place c.loop-place.ranked.items _
    (subst (λ n. PassesAllOrders n c.args.orders.now) (sym ended) c.places-place-end.ensures)
    c.loop-place.invariant.items c.loop-place.invariant.narrow c.sort_unstable_by_key.ensures.permutation
    (c.sort_unstable_by_key.ensures.sorted (λ ranked. ranked.rank) (answers_always _ _ _ (λ f a r g h. search rules)))
