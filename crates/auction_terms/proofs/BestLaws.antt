-- The best of some ticks, found one by one.
use Rattle.std.proofs.Common.{◌≡◌, ℕ, ◌<◌, ◌≤◌, min, max, true, false, cond, ◌&&◌, ◌||◌, eqb, ltb, List, [], ◌∷◌, ◌++◌}
use Rattle.std.proofs.Common.{fold, All, Option, Some, None, refl, sym, subst, arith}
use Rattle.std.proofs.lemmas.Bool.{ltb-true, ltb-false, eqb-true, eqb-false, lt-ltb, le-ltb, eq-eqb, ne_eqb, cond_both}
use Rattle.std.proofs.lemmas.Bool.{cases_order, and_parts, and_cases, or_parts}
use Rattle.std.proofs.lemmas.List.{append-nil, append_assoc}
use Rattle.std.proofs.lemmas.List.Elements.{All-nil, All-head, All-tail, All-push, All-weaker, filter-append}
use Rattle.std.proofs.lemmas.Grind.{common_steps}
use Rattle.auction_terms.specs.declared.Order.{Order}
use Rattle.auction_terms.specs.declared.Side.TheVariants.{Bid, Ask}
use Rattle.auction_terms.specs.Book.{volume, surplus, has_bid_surplus, has_ask_surplus, surplus_side}
use Rattle.auction_terms.specs.AuctionPrice.{highest, lowest, priced}
use Rattle.auction_terms.specs.declared.Price.{Price}
use Rattle.auction_terms.specs.declared.Side.{Side}
use Rattle.auction_terms.specs.Auxiliary.BestTicks.{Leaders, has_key, keyed, IsNoBetterThan, AreLeadersOf, AreBest}

-- ---- the best so far, after one more tick

abbrev raised_by : Option ℕ → ℕ → ℕ
raised_by None tick = tick
raised_by (Some highest) tick = max highest tick

abbrev lowered_by : Option ℕ → ℕ → ℕ
lowered_by None tick = tick
lowered_by (Some lowest) tick = min lowest tick

-- where the price may be held: not below a tick with a bid surplus, not above one with an ask surplus
abbrev lower_alone : Option Side → ℕ → Option ℕ
lower_alone None tick = Some tick
lower_alone (Some Bid) tick = Some tick
lower_alone (Some Ask) tick = None

abbrev upper_alone : Option Side → ℕ → Option ℕ
upper_alone None tick = Some tick
upper_alone (Some Bid) tick = None
upper_alone (Some Ask) tick = Some tick

abbrev alone_of : Price → Leaders
alone_of candidate = record {
  volume = candidate.volume;
  surplus = candidate.surplus;
  lower = lower_alone candidate.side candidate.tick;
  upper = upper_alone candidate.side candidate.tick;
}

abbrev lower_tied : Option Side → Option ℕ → ℕ → Option ℕ
lower_tied None lower tick = Some (lowered_by lower tick)
lower_tied (Some Bid) lower tick = Some (raised_by lower tick)
lower_tied (Some Ask) lower tick = lower

abbrev upper_tied : Option Side → Option ℕ → ℕ → Option ℕ
upper_tied None upper tick = Some (raised_by upper tick)
upper_tied (Some Bid) upper tick = upper
upper_tied (Some Ask) upper tick = Some (lowered_by upper tick)

abbrev tied_with : Leaders → Price → Leaders
tied_with leaders candidate = record leaders {
  lower = lower_tied candidate.side leaders.lower candidate.tick;
  upper = upper_tied candidate.side leaders.upper candidate.tick;
}

abbrev pub next_after : Option Leaders → Price → Option Leaders
next_after None candidate = cond (ltb 0 candidate.volume) (Some (alone_of candidate)) None
next_after (Some leaders) candidate =
    cond (ltb leaders.volume candidate.volume
    || (eqb candidate.volume leaders.volume && ltb candidate.surplus leaders.surplus)) (Some (alone_of candidate))
    (cond (eqb candidate.volume leaders.volume && eqb candidate.surplus leaders.surplus)
    (Some (tied_with leaders candidate)) (Some leaders))

-- ---- the side of a surplus

pub data SideOf (book : List Order) (p : ℕ) : Type 0 where
  on_bid : surplus_side book p ≡ Some Bid → has_bid_surplus book p ≡ true → has_ask_surplus book p ≡ false
      → 0 < surplus book p → SideOf book p
  on_ask : surplus_side book p ≡ Some Ask → has_bid_surplus book p ≡ false → has_ask_surplus book p ≡ true
      → 0 < surplus book p → SideOf book p
  balanced : surplus_side book p ≡ None → has_bid_surplus book p ≡ false → has_ask_surplus book p ≡ false
      → surplus book p ≡ 0 → SideOf book p

pub side_of : (book : List Order) (p : ℕ) → SideOf book p
unfolding surplus_side has_bid_surplus has_ask_surplus surplus
side_of book p = grind (arith, common_steps, cases_order, le-ltb, lt-ltb)

-- ---- the highest and the lowest of a list with one more

pub highest_push : (ps : List ℕ) (p : ℕ) → highest (ps ++ p ∷ []) ≡ Some (raised_by (highest ps) p)
highest_push [] p = refl
highest_push (q ∷ ps) p = grind (arith, common_steps, (highest_push ps p))

pub lowest_push : (ps : List ℕ) (p : ℕ) → lowest (ps ++ p ∷ []) ≡ Some (lowered_by (lowest ps) p)
lowest_push [] p = refl
lowest_push (q ∷ ps) p = grind (arith, common_steps, (lowest_push ps p))

-- ---- one more limit

-- no limit has a key that each of them misses
keyed_none : (book : List Order) (v s : ℕ) (ps : List ℕ) → All (λ p. has_key book v s p ≡ false) ps
    → keyed book v s ps ≡ []
keyed_none book v s [] none = refl
keyed_none book v s (p ∷ ps) none =
    grind (
      arith,
      common_steps,
      All-head,
      All-tail,
      (keyed_none book v s ps (All-tail (λ q. has_key book v s q ≡ false) p ps none)),
    )

-- p is strictly better than q
abbrev Beats : List Order → ℕ → ℕ → Type 0
Beats book p q = (volume book q ≤ volume book p) × (volume book q ≡ volume book p → surplus book p < surplus book q)

-- a limit that is better than all before it
alone_leads : (book : List Order) (ps : List ℕ) (p : ℕ) → 0 < volume book p → All (Beats book p) ps
    → AreLeadersOf book (ps ++ p ∷ []) (alone_of (priced book p))
unfolding priced
alone_leads book ps p some beaten =
    let v = volume book p in
    let s = surplus book p in
    let apart : All (λ q. has_key book v s q ≡ false) ps =
    grind (arith, common_steps, All-weaker) in
    grind (arith, common_steps, keyed_none, All-push, All-weaker, side_of, ne_eqb)

-- a limit that is as good as the best
tied_leads : (book : List Order) (ps : List ℕ) (p : ℕ) (leaders : Leaders) → AreLeadersOf book ps leaders
    → volume book p ≡ leaders.volume → surplus book p ≡ leaders.surplus
    → AreLeadersOf book (ps ++ p ∷ []) (tied_with leaders (priced book p))
unfolding priced
tied_leads book ps p leaders lead same equal =
    grind (arith, common_steps, All-push, side_of, ne_eqb, filter-append, append-nil, lowest_push, eq-eqb, highest_push)

-- a limit that is worse than the best
worse_leads : (book : List Order) (ps : List ℕ) (p : ℕ) (leaders : Leaders) → AreLeadersOf book ps leaders
    → IsNoBetterThan book leaders p → has_key book leaders.volume leaders.surplus p ≡ false
    → AreLeadersOf book (ps ++ p ∷ []) leaders
worse_leads book ps p leaders lead no_better apart = grind (arith, common_steps)

better_false : (v s w t : ℕ) → (ltb w v || (eqb v w && ltb s t)) ≡ false → (v ≤ w) × (v ≡ w → t ≤ s)
better_false v s w t h = grind (arith, common_steps, or_parts, ltb-false, and_cases, eqb-false)

pub best_step : (book : List Order) (ps : List ℕ) (p : ℕ) (leaders : Option Leaders) → AreBest book ps leaders
    → AreBest book (ps ++ p ∷ []) (next_after leaders (priced book p))
unfolding priced
best_step book ps p leaders none =
    grind (
      arith,
      common_steps,
      cond_both,
      alone_leads,
      ltb-true,
      All-weaker,
      All-push,
      ltb-false,
      and_parts,
      tied_leads,
      eqb-true,
      worse_leads,
      better_false,
    )

pub best_after : (book : List Order) (ps qs : List ℕ) (leaders : Option Leaders) → AreBest book ps leaders
    → AreBest book (ps ++ qs) (fold (λ best p. next_after best (priced book p)) leaders qs)
best_after book ps [] leaders best = subst (λ ts. AreBest book ts leaders) (sym (append-nil ps)) best
best_after book ps (q ∷ qs) leaders best =
    let next = next_after leaders (priced book q) in
    subst (λ ts. AreBest book ts (fold (λ best p. next_after best (priced book p)) next qs))
    (append_assoc ps (q ∷ []) qs)
    (best_after book (ps ++ q ∷ []) qs next (best_step book ps q leaders best))

-- the best of all, one by one
pub scanned_best : (book : List Order) (ps : List ℕ)
    → AreBest book ps (fold (λ best p. next_after best (priced book p)) None ps)
scanned_best book ps = best_after book [] ps None (All-nil (λ p. volume book p ≡ 0))
