-- Running sums of two lists, one after the other, and the steps of the loops.
use Rattle.std.proofs.Common.{◌≡◌, ℕ, ◌+◌, ◌≤◌, ◌<◌, List, [], ◌∷◌, ◌++◌, length, take, drop, get_or, set}
use Rattle.std.proofs.Common.{sum, refl, sym, ap, ◌∙◌, arith}
use Rattle.std.specs.Simd.Lanes.{chunk, put_chunk}
use Rattle.std.proofs.Math.Seq.{take-add, drop-append_seam}
use Rattle.std.proofs.lemmas.List.{take_more, take_more_set, drop-drop, length-take-le}
use Rattle.std.proofs.lemmas.List.Sums.{sum_by-append, sum_by-cons, sum_by-take-drop, sum_by-take-le}
use Rattle.std.proofs.lemmas.Simd.{take_more_put_chunk, put_chunk_is, length-chunk, chunk-drop}
use Rattle.lanes.specs.RunningSums.{rising_sums, falling_sums}
use Rattle.std.proofs.lemmas.Grind.{common_steps}

pub sum-cons : (x : ℕ) (xs : List ℕ) → sum (x ∷ xs) ≡ x + sum xs
sum-cons x xs = sum_by-cons (λ n. n) x xs

pub sum-append : (xs ys : List ℕ) → sum (xs ++ ys) ≡ sum xs + sum ys
sum-append xs ys = sum_by-append (λ n. n) xs ys

pub length-rising_sums : (s : ℕ) (xs : List ℕ) → length (rising_sums s xs) ≡ length xs
length-rising_sums s [] = refl
length-rising_sums s (x ∷ xs) = omega (arith, length-rising_sums (s + x) xs)

pub length-falling_sums : (s : ℕ) (xs : List ℕ) → length (falling_sums s xs) ≡ length xs
length-falling_sums s [] = refl
length-falling_sums s (x ∷ xs) = omega (arith, length-falling_sums s xs)

pub rising_sums-append : (s : ℕ) (xs ys : List ℕ) → rising_sums s (xs ++ ys) ≡ rising_sums s xs
    ++ rising_sums (s + sum xs) ys
rising_sums-append s [] ys = ap (λ n. rising_sums n ys) (omega arith)
rising_sums-append s (x ∷ xs) ys =
    ap (λ l. (s + x) ∷ l) (rising_sums-append (s + x) xs ys
    ∙ ap (λ n. rising_sums (s + x) xs ++ rising_sums n ys) (omega (arith, sum-cons x xs)))

pub falling_sums-append : (s : ℕ) (xs ys : List ℕ) → falling_sums s (xs ++ ys) ≡ falling_sums (s + sum ys) xs
    ++ falling_sums s ys
falling_sums-append s [] ys = refl
falling_sums-append s (x ∷ xs) ys =
    let e : s + (x + sum (xs ++ ys)) ≡ s + sum ys + (x + sum xs) = omega (arith, sum-append xs ys) in
    let r : falling_sums s (xs ++ ys) ≡ falling_sums (s + sum ys) xs ++ falling_sums s ys =
    falling_sums-append s xs ys in
    rw (e, r)

-- the sums of the numbers up to and after a chunk
pub sum_take_chunk : (i n : ℕ) (xs : List ℕ) → sum (take (i + n) xs) ≡ sum (take i xs) + sum (chunk i n xs)
sum_take_chunk i n xs = ap sum (take-add i n xs) ∙ sum-append (take i xs) (chunk i n xs)

pub sum_drop_chunk : (i n : ℕ) (xs : List ℕ) → sum (drop i xs) ≡ sum (chunk i n xs) + sum (drop (i + n) xs)
sum_drop_chunk i n xs = ap sum (chunk-drop i n xs) ∙ sum-append (chunk i n xs) (drop (i + n) xs)

pub sum_take_le : (i : ℕ) (xs : List ℕ) → sum (take i xs) ≤ sum xs
sum_take_le i xs = sum_by-take-le (λ n. n) xs i

pub sum_drop_le : (i : ℕ) (xs : List ℕ) → sum (drop i xs) ≤ sum xs
sum_drop_le i xs = omega (arith, sum_by-take-drop (λ n. n) xs i)

-- what is there from a chunk on, after the chunk was written
pub drop_put_chunk : (i : ℕ) (xs ys : List ℕ) → i + length ys ≤ length xs
    → drop i (put_chunk i xs ys) ≡ ys ++ drop (i + length ys) xs
drop_put_chunk i xs ys room = grind (arith, common_steps, length-take-le, put_chunk_is, drop-append_seam, drop-drop)

pub rising_eights : (s carry at : ℕ) (src out : List ℕ) → at + 8 ≤ length src → length out ≡ length src
    → carry ≡ s + sum (take at src) → take at out ≡ rising_sums s (take at src)
    → take (at + 8) (put_chunk at out (rising_sums carry (chunk at 8 src))) ≡ rising_sums s (take (at + 8) src)
rising_eights s carry at src out room same is done =
    grind (arith, common_steps, length-rising_sums, length-chunk, take_more_put_chunk, rising_sums-append, take-add)

pub rising_one : (s carry at : ℕ) (src out : List ℕ) → at < length src → length out ≡ length src
    → carry ≡ s + sum (take at src) → take at out ≡ rising_sums s (take at src)
    → take (at + 1) (set out at (carry + get_or src at 0)) ≡ rising_sums s (take (at + 1) src)
rising_one s carry at src out room same is done =
    grind (arith, common_steps, take_more_set, rising_sums-append, take_more)

pub falling_eights : (s carry at next : ℕ) (src out : List ℕ) → next ≡ at + 8 → next ≤ length src
    → length out ≡ length src → carry ≡ s + sum (drop next src) → drop next out ≡ falling_sums s (drop next src)
    → drop at (put_chunk at out (falling_sums carry (chunk at 8 src))) ≡ falling_sums s (drop at src)
falling_eights s carry at next src out q room same is done =
    let ys = falling_sums carry (chunk at 8 src) in
    let long : length (falling_sums carry (chunk at 8 src)) ≡ 8 =
    length-falling_sums carry (chunk at 8 src) ∙ length-chunk at 8 src (omega arith) in
    drop_put_chunk at out ys (omega (arith, long))
    ∙ ap (λ n. ys ++ drop n out) (omega (arith, long))
    ∙ ap (λ l. ys ++ l) done
    ∙ ap (λ n. falling_sums n (chunk at 8 src) ++ falling_sums s (drop next src)) is
    ∙ sym (falling_sums-append s (chunk at 8 src) (drop next src))
    ∙ ap (λ n. falling_sums s (chunk at 8 src ++ drop n src)) q
    ∙ ap (falling_sums s) (sym (chunk-drop at 8 src))
