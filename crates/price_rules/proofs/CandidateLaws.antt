-- The limits around the crossing in their lanes.
use Rattle.std.proofs.Common.{◌≡◌, ℕ, zero, suc, ◌+◌, ◌≤◌, ◌<◌, inl, inr, true, List, [], ◌∷◌, ◌++◌, Option, Some}
use Rattle.std.proofs.Common.{length, get_or, ap, ◌∙◌, arith}
use Rattle.std.proofs.lemmas.Grind.{common_steps}
use Rattle.auction_terms.specs.declared.Order.{Order}
use Rattle.auction_terms.specs.Book.{demand, supply}
use Rattle.auction_terms.specs.Ladder.{LadderView}
use Rattle.auction_terms.specs.Auxiliary.BestTicks.{has}
use Rattle.price_rules.specs.declared.surroundings.Around.{Around}
use Rattle.price_rules.specs.declared.candidates.Candidate.{Candidate}
use Rattle.price_rules.specs.Around.{IsAround, IsPoint, here_at, tick_list, few_limits}
use Rattle.price_rules.specs.Candidates.{IsCandidate, AreCandidates, AreMarked, in_lanes}
use Rattle.price_rules.proofs.CurveLaws.{HasCurvesOf}
use Rattle.price_rules.proofs.NearbyLaws.{has-left, has-right, has-either, has_one, one_is}

-- a flag says that there is a limit
record Flagged (v : LadderView) (o : Option ℕ) (c : Candidate) : Type 0 where
  place : ℕ
  there : o ≡ Some place
  tick : c.tick ≡ v.low + place
  within : place < length v.bids
  point : IsPoint v place c.demand c.supply

candidate-flagged : (v : LadderView) (o : Option ℕ) (c : Candidate) → IsCandidate v o c → c.flag ≡ 1 → Flagged v o c
candidate-flagged v o c is flag = grind (arith, common_steps)

-- and a limit has a flag
flag_of_limit : (v : LadderView) (o : Option ℕ) (c : Candidate) (i : ℕ) → o ≡ Some i → IsCandidate v o c
    → (c.flag ≡ 1) × (c.tick ≡ v.low + i)
flag_of_limit v o c i e is = grind (arith, common_steps)

candidate-values : (v : LadderView) (book : List Order) (o : Option ℕ) (c : Candidate) → HasCurvesOf v book
    → IsCandidate v o c
    → c.flag ≡ 1 → (c.demand ≡ demand book c.tick) × (c.supply ≡ supply book c.tick)
candidate-values v book o c tells is flag = grind (arith, common_steps, candidate-flagged)

no_more : (k : ℕ) → get_or {A = ℕ} (0 ∷ 0 ∷ 0 ∷ 0 ∷ []) k 0 ≡ 1 → ⊥
no_more k h = grind (arith, common_steps)

module _ (v : LadderView) (a : Around) (c1 c2 c3 c4 : Candidate) (is : IsAround v a) (far : IsCandidate v a.far c1)
    (near : IsCandidate v a.near c2) (here : IsCandidate v (here_at v a.crossing.place) c3)
    (after : IsCandidate v a.after c4) where
  rises : (j k : ℕ) → j < k → get_or (in_lanes c1 c2 c3 c4).flags j 0 ≡ 1 → get_or (in_lanes c1 c2 c3 c4).flags k 0 ≡ 1
      → get_or (in_lanes c1 c2 c3 c4).ticks j 0 ≤ get_or (in_lanes c1 c2 c3 c4).ticks k 0
  rises j k less e g = grind (arith, common_steps)

  pub are_candidates : (book : List Order) → HasCurvesOf v book → AreCandidates book (in_lanes c1 c2 c3 c4)
  are_candidates book tells = record { demands_are = demands; supplies_are = supplies; rising = rises }
    where
      demands : (k : ℕ) → get_or (in_lanes c1 c2 c3 c4).flags k 0 ≡ 1 → get_or (in_lanes c1 c2 c3 c4).demands k 0
          ≡ demand book (get_or (in_lanes c1 c2 c3 c4).ticks k 0)
      demands zero e = (candidate-values v book a.far c1 tells far e).0
      demands (suc zero) e = (candidate-values v book a.near c2 tells near e).0
      demands (suc (suc zero)) e = (candidate-values v book (here_at v a.crossing.place) c3 tells here e).0
      demands (suc (suc (suc zero))) e = (candidate-values v book a.after c4 tells after e).0
      demands (suc (suc (suc (suc k)))) e = absurd (no_more k e)

      supplies : (k : ℕ) → get_or (in_lanes c1 c2 c3 c4).flags k 0 ≡ 1 → get_or (in_lanes c1 c2 c3 c4).supplies k 0
          ≡ supply book (get_or (in_lanes c1 c2 c3 c4).ticks k 0)
      supplies zero e = (candidate-values v book a.far c1 tells far e).1
      supplies (suc zero) e = (candidate-values v book a.near c2 tells near e).1
      supplies (suc (suc zero)) e = (candidate-values v book (here_at v a.crossing.place) c3 tells here e).1
      supplies (suc (suc (suc zero))) e = (candidate-values v book a.after c4 tells after e).1
      supplies (suc (suc (suc (suc k)))) e = absurd (no_more k e)

  pub are_marked : AreMarked (in_lanes c1 c2 c3 c4).ticks (in_lanes c1 c2 c3 c4).flags (few_limits v a)
  are_marked =
      let low = v.low in
      let l1 = tick_list low a.far in
      let l2 = tick_list low a.near in
      let l3 = tick_list low (here_at v a.crossing.place) in
      let l4 = tick_list low a.after in
      record {
        there = marks;
        place = λ t e. elim (has-either t ((l1 ++ l2) ++ l3) l4 e) [
          | inr at ↦ let o = one_is low t a.after at in let f = flag_of_limit v a.after c4 o.0 o.1 after in
              (3, omega arith, f.0, f.1 ∙ o.2)
          | inl at ↦ elim (has-either t (l1 ++ l2) l3 at) [
            | inr at ↦ let o = one_is low t (here_at v a.crossing.place) at in let f =
                flag_of_limit v (here_at v a.crossing.place) c3 o.0 o.1 here in (2, omega arith, f.0, f.1 ∙ o.2)
            | inl at ↦ elim (has-either t l1 l2 at) [
              | inr at ↦ let o = one_is low t a.near at in let f = flag_of_limit v a.near c2 o.0 o.1 near in
                  (1, omega arith, f.0, f.1 ∙ o.2)
              | inl at ↦ let o = one_is low t a.far at in let f = flag_of_limit v a.far c1 o.0 o.1 far in
                  (0, omega arith, f.0, f.1 ∙ o.2)
            ]
          ]
        ];
      }
    where
      in_list : (o : Option ℕ) (c : Candidate) → IsCandidate v o c → c.flag ≡ 1 → has c.tick (tick_list v.low o) ≡ true
      in_list o c is e =
          let f = candidate-flagged v o c is e in
          ap (λ t. has t (tick_list v.low o)) f.tick ∙ ap (λ o. has (v.low + f.place) (tick_list v.low o)) f.there
          ∙ has_one v.low f.place

      marks : (k : ℕ) → get_or (in_lanes c1 c2 c3 c4).flags k 0 ≡ 1
          → has (get_or (in_lanes c1 c2 c3 c4).ticks k 0) (few_limits v a) ≡ true
      marks zero e =
          has-left c1.tick _ (tick_list v.low a.after)
          (has-left c1.tick _ (tick_list v.low (here_at v a.crossing.place))
          (has-left c1.tick (tick_list v.low a.far) (tick_list v.low a.near) (in_list a.far c1 far e)))
      marks (suc zero) e =
          has-left c2.tick _ (tick_list v.low a.after)
          (has-left c2.tick _ (tick_list v.low (here_at v a.crossing.place))
          (has-right c2.tick (tick_list v.low a.far) (tick_list v.low a.near) (in_list a.near c2 near e)))
      marks (suc (suc zero)) e =
          has-left c3.tick _ (tick_list v.low a.after)
          (has-right c3.tick (tick_list v.low a.far ++ tick_list v.low a.near)
          (tick_list v.low (here_at v a.crossing.place)) (in_list (here_at v a.crossing.place) c3 here e))
      marks (suc (suc (suc zero))) e =
          has-right c4.tick ((tick_list v.low a.far ++ tick_list v.low a.near)
          ++ tick_list v.low (here_at v a.crossing.place)) (tick_list v.low a.after) (in_list a.after c4 after e)
      marks (suc (suc (suc (suc k)))) e = absurd (no_more k e)
