-- Which places have bids or asks.
use Rattle.std.proofs.Common.{◌≡◌, ℕ, zero, suc, ◌+◌, ◌≤◌, ◌<◌, inl, inr, List, [], ◌∷◌, Option, None, Some, length}
use Rattle.std.proofs.Common.{get_or, set, replicate, sum, max, min, refl, ap, arith}
use Rattle.std.specs.Prelude.{◌||◌, MatchOption, nat_eq, nat_lt}
use Rattle.std.specs.Simd.Lanes.{zip2}
use Rattle.std.proofs.lemmas.Bool.{cases_lt, lt-ltb, le-ltb}
use Rattle.std.proofs.lemmas.List.Sums.{sum_by-set}
use Rattle.std.proofs.lemmas.Grind.{common_steps}
use Rattle.auction_terms.specs.Ladder.{flag_of}
use Rattle.lanes.specs.Meeting.{before}
use Rattle.tick_ladder.specs.OccupiedPlaces.{IsBlank, FindsLast, FindsFirst, IsClear, IsLast, IsFirst}
use Rattle.tick_ladder.specs.OccupiedPlaces.{later_of, earlier_of}
use Rattle.tick_ladder.proofs.BeforeLaws.{before_rises}

pub no_flags : (n : ℕ) → replicate n 0 ≡ zip2 flag_of (replicate n 0) (replicate n 0)
no_flags zero = refl
no_flags (suc n) = ap (λ l. 0 ∷ l) (no_flags n)

flag_at : (b a : List ℕ) (i : ℕ) → length a ≡ length b
    → get_or (zip2 flag_of b a) i 0 ≡ flag_of (get_or b i 0) (get_or a i 0)
flag_at [] [] zero e = refl
flag_at [] [] (suc i) e = refl
flag_at [] (y ∷ ys) i e = absurd (omega (arith, e))
flag_at (x ∷ xs) [] i e = absurd (omega (arith, e))
flag_at (x ∷ xs) (y ∷ ys) zero e = refl
flag_at (x ∷ xs) (y ∷ ys) (suc i) e = flag_at xs ys i (omega (arith, e))

-- the flag of a place
pub flag_is : (b a : List ℕ) (i : ℕ) → length a ≡ length b
    → nat_eq (get_or (zip2 flag_of b a) i 0) 1 ≡ (nat_lt 0 (get_or b i 0) || nat_lt 0 (get_or a i 0))
flag_is b a i e = grind (arith, common_steps, flag_at, cases_lt, lt-ltb, le-ltb)

-- ---- the later of two last places, and the earlier of two first ones

blank_within : (xs : List ℕ) (i j k l : ℕ) → i ≤ k → k ≤ l → l ≤ j → IsBlank xs i j → IsBlank xs k l
blank_within xs i j k l ik kl lj blank =
    omega (arith, blank, before_rises xs i k ik, before_rises xs k l kl, before_rises xs l j lj)

some_at_later : (b a : List ℕ) (p q : ℕ) → 0 < get_or b p 0 → 0 < get_or a q 0
    → 0 < get_or b (max p q) 0 + get_or a (max p q) 0
some_at_later b a p q hb ha = elim (cases_lt p q) [
  | inl before ↦
      let is : max p q ≡ q = omega (arith, before) in
      rw is (omega (arith, ha))
  | inr after ↦
      let is : max p q ≡ p = omega (arith, after) in
      rw is (omega (arith, hb))
]

some_at_earlier : (b a : List ℕ) (p q : ℕ) → 0 < get_or b p 0 → 0 < get_or a q 0
    → 0 < get_or b (min p q) 0 + get_or a (min p q) 0
some_at_earlier b a p q hb ha = elim (cases_lt p q) [
  | inl before ↦
      let is : min p q ≡ p = omega (arith, before) in
      rw is (omega (arith, hb))
  | inr after ↦
      let is : min p q ≡ q = omega (arith, after) in
      rw is (omega (arith, ha))
]

module _ (b a : List ℕ) where
  pub last_found : (o p : Option ℕ) (j : ℕ) → FindsLast b 0 j o → FindsLast a 0 j p
      → MatchOption (later_of o p) (IsClear b a 0 j) (IsLast b a 0 j)
  last_found None None j none nor = record { no_bids = none; no_asks = nor }
  last_found (Some p) None j one none =
      record {
        from = one.from;
        within = one.within;
        stands = omega (arith, one.positive);
        clear = record {
          no_bids = one.blank;
          no_asks = blank_within a 0 j (p + 1) j (omega arith) (omega (arith, one.within)) (omega arith) none;
        };
      }
  last_found None (Some q) j none one =
      record {
        from = one.from;
        within = one.within;
        stands = omega (arith, one.positive);
        clear = record {
          no_bids = blank_within b 0 j (q + 1) j (omega arith) (omega (arith, one.within)) (omega arith) none;
          no_asks = one.blank;
        };
      }
  last_found (Some p) (Some q) j one other =
      let end : max p q + 1 ≤ j = omega (arith, one.within, other.within) in
      record {
        from = omega arith;
        within = omega (arith, one.within, other.within);
        stands = some_at_later b a p q one.positive other.positive;
        clear = record {
          no_bids = blank_within b (p + 1) j (max p q + 1) j (omega arith) end (omega arith) one.blank;
          no_asks = blank_within a (q + 1) j (max p q + 1) j (omega arith) end (omega arith) other.blank;
        };
      }

  pub first_found : (o p : Option ℕ) (i j : ℕ) → i ≤ j → FindsFirst b i j o → FindsFirst a i j p
      → MatchOption (earlier_of o p) (IsClear b a i j) (IsFirst b a i j)
  first_found None None i j h none nor = record { no_bids = none; no_asks = nor }
  first_found (Some p) None i j h one none =
      record {
        from = one.from;
        within = one.within;
        stands = omega (arith, one.positive);
        clear = record {
          no_bids = one.blank;
          no_asks = blank_within a i j i p (omega arith) one.from (omega (arith, one.within)) none;
        };
      }
  first_found None (Some q) i j h none one =
      record {
        from = one.from;
        within = one.within;
        stands = omega (arith, one.positive);
        clear = record {
          no_bids = blank_within b i j i q (omega arith) one.from (omega (arith, one.within)) none;
          no_asks = one.blank;
        };
      }
  first_found (Some p) (Some q) i j h one other =
      let start : i ≤ min p q = omega (arith, one.from, other.from) in
      record {
        from = start;
        within = omega (arith, one.within, other.within);
        stands = some_at_earlier b a p q one.positive other.positive;
        clear = record {
          no_bids = blank_within b i p i (min p q) (omega arith) start (omega arith) one.blank;
          no_asks = blank_within a i q i (min p q) (omega arith) start (omega arith) other.blank;
        };
      }

-- ---- one place changed

pub sum-set : (b : List ℕ) (i x : ℕ) → i < length b → sum (set b i x) + get_or b i 0 ≡ sum b + x
sum-set b i x lt = sum_by-set (λ n. n) b i x 0 lt
