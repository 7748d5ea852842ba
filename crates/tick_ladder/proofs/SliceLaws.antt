-- What a part of a list says of the list.
use Rattle.std.proofs.Common.{◌≡◌, ℕ, zero, suc, ◌+◌, ◌-◌, ◌≤◌, ◌<◌, List, length, drop, get_or, sum, refl, ap, ◌∙◌}
use Rattle.std.proofs.Common.{arith}
use Rattle.std.specs.Simd.Lanes.{chunk}
use Rattle.std.proofs.Math.Seq.{take-add}
use Rattle.std.proofs.lemmas.List.{take-take, get_or-take, get_or-drop}
use Rattle.std.proofs.lemmas.List.Sums.{sum_by-append}
use Rattle.std.proofs.lemmas.Simd.{length-chunk}
use Rattle.std.proofs.lemmas.Grind.{common_steps}
use Rattle.lanes.specs.declared.running_sums.Meeting.{Meeting}
use Rattle.lanes.specs.Meeting.{before, IsMeeting}
use Rattle.lanes.specs.Positive.{NoneIn, IsFirstPositive, IsLastPositive}
use Rattle.tick_ladder.specs.declared.Crossing.{Crossing}
use Rattle.tick_ladder.specs.OccupiedPlaces.{IsBlank, IsLastIn, IsFirstIn, IsCrossing}
use Rattle.tick_ladder.proofs.BeforeLaws.{before_next, before_all}

pub before_chunk : (xs : List ℕ) (s n k : ℕ) → k ≤ n → before (chunk s n xs) k + before xs s ≡ before xs (s + k)
before_chunk xs s n k h = grind (arith, common_steps, take-take, take-add, sum_by-append)

chunk_at : (xs : List ℕ) (s n k : ℕ) → k < n → get_or (chunk s n xs) k 0 ≡ get_or xs (s + k) 0
chunk_at xs s n k h = get_or-take n (drop s xs) k 0 h ∙ get_or-drop s xs k 0

-- the sum of a part
pub sum_chunk : (xs : List ℕ) (s n : ℕ) → s + n ≤ length xs → sum (chunk s n xs) + before xs s ≡ before xs (s + n)
sum_chunk xs s n h = omega (arith, before_all, (length-chunk s n xs h), (before_chunk xs s n n (omega arith)))

-- numbers that are all 0 add nothing
blank_by : (vs : List ℕ) (i d : ℕ) → NoneIn vs i (i + d) → before vs i ≡ before vs (i + d)
blank_by vs i zero none = ap (before vs) (omega arith)
blank_by vs i (suc d) none =
    let one = before_next vs (i + d) in
    let zero_there = none (i + d) (omega arith) (omega arith) in
    let same : i + suc d ≡ i + d + 1 = omega arith in
    omega (arith, ap (before vs) same, blank_by vs i d (λ k from to. none k from (omega arith)))

blank_of : (vs : List ℕ) (i j : ℕ) → i ≤ j → NoneIn vs i j → before vs i ≡ before vs j
blank_of vs i j h none =
    let back : i + (j - i) ≡ j = omega arith in
    blank_by vs i (j - i) (λ k from to. none k from (omega arith)) ∙ ap (before vs) back

module _ (xs : List ℕ) (s e : ℕ) (order : s ≤ e) (room : e ≤ length xs) where
  long : length (chunk s (e - s) xs) ≡ e - s
  long = length-chunk s (e - s) xs (omega arith)

  ends : before (chunk s (e - s) xs) (e - s) + before xs s ≡ before xs e
  ends = let back : s + (e - s) ≡ e =
      omega arith in before_chunk xs s (e - s) (e - s) (omega arith) ∙ ap (before xs) back

  pub none_is : NoneIn (chunk s (e - s) xs) 0 (length (chunk s (e - s) xs)) → IsBlank xs s e
  none_is none =
      let blank =
      blank_of (chunk s (e - s) xs) 0 (e - s) (omega arith) (λ k from to. none k from (omega (arith, long))) in
      let start : before (chunk s (e - s) xs) 0 ≡ 0 = refl in
      omega (arith, ends)

  pub last_is : (p : ℕ) → IsLastPositive (chunk s (e - s) xs) p → IsLastIn xs s e (s + p)
  last_is p last =
      let inside : p < e - s = omega (arith, long, last.within) in
      let blank =
      blank_of (chunk s (e - s) xs) (p + 1) (e - s) (omega arith)
      (λ k from to. last.after k from (omega (arith, long))) in
      let here = before_chunk xs s (e - s) (p + 1) (omega arith) in
      let next : s + (p + 1) ≡ s + p + 1 = omega arith in
      record {
        from = omega arith;
        within = omega arith;
        positive = omega (arith, last.here, chunk_at xs s (e - s) p inside);
        blank = omega (arith, ends, ap (before xs) next);
      }

  pub first_is : (p : ℕ) → IsFirstPositive (chunk s (e - s) xs) p → IsFirstIn xs s e (s + p)
  first_is p first =
      let inside : p < e - s = omega (arith, long, first.within) in
      let blank = blank_of (chunk s (e - s) xs) 0 p (omega arith) first.before in
      let start : before (chunk s (e - s) xs) 0 ≡ 0 = refl in
      let here = before_chunk xs s (e - s) p (omega arith) in
      record {
        from = omega arith;
        within = omega arith;
        positive = omega (arith, first.here, chunk_at xs s (e - s) p inside);
        blank = omega arith;
      }

  pub sum_slice : sum (chunk s (e - s) xs) + before xs s ≡ before xs e
  sum_slice = let back : s + (e - s) ≡ e = omega arith in sum_chunk xs s (e - s) (omega arith) ∙ ap (before xs) back

abbrev crossing_at : ℕ → Meeting → Crossing
crossing_at s m = record { place = s + m.place; demand = m.high; below = m.low }

pub crossing_is : (b a : List ℕ) (s e d l : ℕ) (m : Meeting) → s < e → e ≤ length b → length a ≡ length b
    → IsMeeting d (chunk s (e - s) b) l (chunk s (e - s) a) m → IsCrossing b a s e d l (crossing_at s m)
crossing_is b a s e d l m order room same met = grind (arith, common_steps, long, length-chunk, before_chunk)
