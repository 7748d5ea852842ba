-- The quantities of a side are where its orders have their limits.
use Rattle.std.proofs.Common.{◌≡◌, ℕ, ◌+◌, ◌<◌, Bool, true, cond, ◌&&◌, List, [], ◌∷◌, filter, All, arith, zero-add}
use Rattle.std.proofs.lemmas.Bool.{eq-eqb}
use Rattle.std.proofs.lemmas.List.Elements.{All-head, All-tail}
use Rattle.std.proofs.lemmas.Grind.{common_steps}
use Rattle.auction_terms.specs.declared.Order.{Order}
use Rattle.auction_terms.specs.declared.Side.{Side}
use Rattle.auction_terms.specs.declared.Limit.{Limit}
use Rattle.auction_terms.specs.declared.Limit.TheVariants.{Market, At}
use Rattle.auction_terms.specs.Book.{is_on, limits}
use Rattle.auction_terms.specs.Ladder.{is_at, quantity_at}
use Rattle.auction_terms.proofs.DemandSums.{quantity_of-cons}
use Rattle.auction_terms.specs.Auxiliary.BestTicks.{has}
use Rattle.auction_terms.proofs.TickListLaws.{has-cases, no_tick}

-- the limits with one more in front
abbrev with_limit : Limit → List ℕ → List ℕ
with_limit Market ts = ts
with_limit (At tick) ts = tick ∷ ts

limits-with : (limit : Limit) (o : Order) (book : List Order) → o.limit ≡ limit
    → limits (o ∷ book) ≡ with_limit limit (limits book)
unfolding limits
limits-with limit o book e = grind (arith, common_steps)

side_limits : (s : Side) (o : Order) (book : List Order)
    → limits (filter (is_on s) (o ∷ book)) ≡ cond (is_on s o) (with_limit o.limit (limits (filter (is_on s) book)))
    (limits (filter (is_on s) book))
side_limits s o book = grind (arith, common_steps, limits-with)

standing_cons : (s : Side) (o : Order) (book : List Order) (t : ℕ)
    → quantity_at s (o ∷ book) t ≡ cond (is_on s o && is_at t o.limit) o.quantity 0 + quantity_at s book t
standing_cons s o book t = grind (arith, common_steps, quantity_of-cons, zero-add)

quantity_there : (b : Bool) (limit : Limit) (t q rest : ℕ) (ts : List ℕ) → 0 < q → (has t ts ≡ true → 0 < rest)
    → has t (cond b (with_limit limit ts) ts) ≡ true → 0 < cond (b && is_at t limit) q 0 + rest
quantity_there b limit t q rest ts some ih e = grind (arith, common_steps, has-cases, eq-eqb)

-- where the side has a quantity, one of its orders has its limit
pub standing_limit : (s : Side) (book : List Order) (t : ℕ) → 0 < quantity_at s book t
    → has t (limits (filter (is_on s) book)) ≡ true
standing_limit s [] t some = absurd (omega arith)
standing_limit s (o ∷ book) t some =
    grind (arith, common_steps, limits-with, (standing_limit s book t))

-- and where an order with something left has its limit, there is a quantity
pub limit_standing : (s : Side) (book : List Order) (t : ℕ) → All (λ o. 0 < o.quantity) book
    → has t (limits (filter (is_on s) book)) ≡ true → 0 < quantity_at s book t
unfolding limits
limit_standing s [] t positive e = no_tick t e
limit_standing s (o ∷ book) t positive e =
    grind (
      arith,
      common_steps,
      quantity_there,
      All-head,
      All-tail,
      side_limits,
      standing_cons,
      (limit_standing s book t (All-tail (λ o. 0 < o.quantity) o book positive)),
    )

-- a limit of a side is a limit
pub side_limit : (s : Side) (book : List Order) (t : ℕ) → has t (limits (filter (is_on s) book)) ≡ true
    → has t (limits book) ≡ true
unfolding limits
side_limit s [] t e = no_tick t e
side_limit s (o ∷ book) t e = grind (arith, common_steps, (side_limit s book t))
