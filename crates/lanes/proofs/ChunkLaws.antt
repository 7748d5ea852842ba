-- One more chunk of eight places, or one more place.
use Rattle.std.proofs.Common.{◌≡◌, ℕ, ◌+◌, ◌≤◌, ◌<◌, List, [], ◌∷◌, ◌++◌, length, take, drop, get_or, set, refl, sym}
use Rattle.std.proofs.Common.{ap, ◌∙◌, arith, cond, ltb}
use Rattle.std.specs.Simd.Lanes.{chunk, put_chunk, zip2}
use Rattle.std.proofs.Math.Seq.{take-add, drop-append_seam, drop-append-add, drop-cons}
use Rattle.std.proofs.lemmas.List.{take_more_set, drop-drop, length-take-le, drop-set-lt, get_or-drop}
use Rattle.std.proofs.lemmas.Simd.{take_more_put_chunk, put_chunk_is, length-chunk, length-zip2}
use Rattle.lanes.specs.Selection.{kept_if_above, kept_if_equal}
use Rattle.std.proofs.lemmas.Grind.{common_steps}

pub zip2-append : (f : ℕ → ℕ → ℕ) (xs ys us vs : List ℕ) → length xs ≡ length us
    → zip2 f (xs ++ ys) (us ++ vs) ≡ zip2 f xs us ++ zip2 f ys vs
zip2-append f [] ys [] vs e = refl
zip2-append f [] ys (u ∷ us) vs e = absurd (omega (arith, e))
zip2-append f (x ∷ xs) ys [] vs e = absurd (omega (arith, e))
zip2-append f (x ∷ xs) ys (u ∷ us) vs e = ap (λ l. f x u ∷ l) (zip2-append f xs ys us vs (omega (arith, e)))

pub kept_if_above-append : (xs ys us vs fs gs : List ℕ) → length xs ≡ length us → length xs ≡ length fs
    → kept_if_above (xs ++ ys) (us ++ vs) (fs ++ gs) ≡ kept_if_above xs us fs ++ kept_if_above ys vs gs
kept_if_above-append [] ys [] vs [] gs e d = refl
kept_if_above-append [] ys [] vs (f ∷ fs) gs e d = absurd (omega (arith, d))
kept_if_above-append [] ys (u ∷ us) vs fs gs e d = absurd (omega (arith, e))
kept_if_above-append (x ∷ xs) ys [] vs fs gs e d = absurd (omega (arith, e))
kept_if_above-append (x ∷ xs) ys (u ∷ us) vs [] gs e d = absurd (omega (arith, d))
kept_if_above-append (x ∷ xs) ys (u ∷ us) vs (f ∷ fs) gs e d =
    ap (λ l. cond (ltb u x) f 0 ∷ l) (kept_if_above-append xs ys us vs fs gs (omega (arith, e)) (omega (arith, d)))

pub length-kept_if_above : (xs us fs : List ℕ) → length xs ≡ length us → length xs ≡ length fs
    → length (kept_if_above xs us fs) ≡ length xs
length-kept_if_above [] us fs e d = refl
length-kept_if_above (x ∷ xs) [] fs e d = absurd (omega (arith, e))
length-kept_if_above (x ∷ xs) (u ∷ us) [] e d = absurd (omega (arith, d))
length-kept_if_above (x ∷ xs) (u ∷ us) (f ∷ fs) e d =
    omega (arith, length-kept_if_above xs us fs (omega (arith, e)) (omega (arith, d)))

-- what is done after at places, and the step to at + n places
pub zip2_more : (f : ℕ → ℕ → ℕ) (at n : ℕ) (a b : List ℕ) → at + n ≤ length a → length b ≡ length a
    → zip2 f (take at a) (take at b) ++ zip2 f (chunk at n a) (chunk at n b)
    ≡ zip2 f (take (at + n) a) (take (at + n) b)
zip2_more f at n a b room same = grind (arith, common_steps, zip2-append, length-take-le, take-add)

pub kept_if_above_more : (at n : ℕ) (a b fs : List ℕ) → at + n ≤ length a → length b ≡ length a → length fs ≡ length a
    → kept_if_above (take at a) (take at b) (take at fs) ++ kept_if_above (chunk at n a) (chunk at n b) (chunk at n fs)
    ≡ kept_if_above (take (at + n) a) (take (at + n) b) (take (at + n) fs)
kept_if_above_more at n a b fs room same same' =
    grind (arith, common_steps, kept_if_above-append, length-take-le, take-add)

pub zip_eights : (f : ℕ → ℕ → ℕ) (at : ℕ) (a b out : List ℕ) → at + 8 ≤ length out → length a ≡ length out
    → length b ≡ length out → take at out ≡ zip2 f (take at a) (take at b)
    → take (at + 8) (put_chunk at out (zip2 f (chunk at 8 a) (chunk at 8 b)))
    ≡ zip2 f (take (at + 8) a) (take (at + 8) b)
zip_eights f at a b out room sa sb done =
    let ys = zip2 f (chunk at 8 a) (chunk at 8 b) in
    let la : length (chunk at 8 a) ≡ 8 = length-chunk at 8 a (omega arith) in
    let lb : length (chunk at 8 b) ≡ 8 = length-chunk at 8 b (omega arith) in
    let long : length (zip2 f (chunk at 8 a) (chunk at 8 b)) ≡ 8 =
    length-zip2 f (chunk at 8 a) (chunk at 8 b) (la ∙ sym lb) ∙ la in
    take_more_put_chunk at out ys (at + 8) (omega (arith, long)) room
    ∙ ap (λ l. l ++ ys) done
    ∙ zip2_more f at 8 a b (omega arith) (omega arith)

pub chunk_one : (at : ℕ) (a : List ℕ) → at < length a → chunk at 1 a ≡ get_or a at 0 ∷ []
chunk_one at a lt = ap (take 1) (drop-cons a at 0 lt)

pub zip_one : (f : ℕ → ℕ → ℕ) (at x : ℕ) (a b out : List ℕ) → at < length out → length a ≡ length out
    → length b ≡ length out → take at out ≡ zip2 f (take at a) (take at b) → x ≡ f (get_or a at 0) (get_or b at 0)
    → take (at + 1) (set out at x) ≡ zip2 f (take (at + 1) a) (take (at + 1) b)
zip_one f at x a b out room sa sb done is =
    take_more_set out at x room
    ∙ ap (λ l. l ++ x ∷ []) done
    ∙ ap (λ n. zip2 f (take at a) (take at b) ++ n ∷ []) is
    ∙ ap (λ l. zip2 f (take at a) (take at b) ++ zip2 f l (get_or b at 0 ∷ [])) (sym (chunk_one at a (omega arith)))
    ∙ ap (λ l. zip2 f (take at a) (take at b) ++ zip2 f (chunk at 1 a) l) (sym (chunk_one at b (omega arith)))
    ∙ zip2_more f at 1 a b (omega arith) (omega arith)

-- what is there from the end of a chunk on, after the chunk was written
pub drop_after_chunk : (i : ℕ) (xs ys : List ℕ) → i + length ys ≤ length xs → drop (i + length ys) (put_chunk i xs ys)
    ≡ drop (i + length ys) xs
drop_after_chunk i xs ys room =
    grind (arith, common_steps, length-take-le, put_chunk_is, drop-drop, drop-append-add, drop-append_seam)

pub ahead_eights : (at : ℕ) (xs zs ys : List ℕ) → at + 8 ≤ length xs → length ys ≡ 8 → drop at xs ≡ drop at zs
    → drop (at + 8) (put_chunk at xs ys) ≡ drop (at + 8) zs
ahead_eights at xs zs ys room long same =
    ap (λ n. drop (at + n) (put_chunk at xs ys)) (sym long)
    ∙ drop_after_chunk at xs ys (omega (arith, long))
    ∙ ap (λ n. drop (at + n) xs) long
    ∙ sym (drop-drop 8 at xs)
    ∙ ap (drop 8) same
    ∙ drop-drop 8 at zs

pub ahead_more : (at : ℕ) (xs zs : List ℕ) → drop at xs ≡ drop at zs → drop (at + 1) xs ≡ drop (at + 1) zs
ahead_more at xs zs same = sym (drop-drop 1 at xs) ∙ ap (drop 1) same ∙ drop-drop 1 at zs

pub here_same : (at : ℕ) (xs zs : List ℕ) → drop at xs ≡ drop at zs → get_or xs at 0 ≡ get_or zs at 0
here_same at xs zs same =
    sym (get_or-drop at xs 0 0 ∙ ap (λ n. get_or xs n 0) (omega arith)) ∙ ap (λ l. get_or l 0 0) same
    ∙ get_or-drop at zs 0 0 ∙ ap (λ n. get_or zs n 0) (omega arith)

-- flags that are left or cleared, eight at a time or one
pub keep_eights : (f : ℕ → ℕ → ℕ) (at : ℕ) (vs fs gs : List ℕ) → at + 8 ≤ length vs → length fs ≡ length vs
    → length gs ≡ length vs → drop at gs ≡ drop at fs → take at gs ≡ zip2 f (take at vs) (take at fs)
    → take (at + 8) (put_chunk at gs (zip2 f (chunk at 8 vs) (chunk at 8 gs)))
    ≡ zip2 f (take (at + 8) vs) (take (at + 8) fs)
keep_eights f at vs fs gs room sf sg ahead done =
    ap (λ l. take (at + 8) (put_chunk at gs (zip2 f (chunk at 8 vs) (take 8 l)))) ahead
    ∙ zip_eights f at vs fs gs (omega arith) (omega arith) (omega arith) done

pub keep_above_eights : (at : ℕ) (a b fs gs : List ℕ) → at + 8 ≤ length a → length b ≡ length a → length fs ≡ length a
    → length gs ≡ length a → drop at gs ≡ drop at fs → take at gs ≡ kept_if_above (take at a) (take at b) (take at fs)
    → take (at + 8) (put_chunk at gs (kept_if_above (chunk at 8 a) (chunk at 8 b) (chunk at 8 gs)))
    ≡ kept_if_above (take (at + 8) a) (take (at + 8) b) (take (at + 8) fs)
keep_above_eights at a b fs gs room sb sf sg ahead done =
    let ys = kept_if_above (chunk at 8 a) (chunk at 8 b) (chunk at 8 fs) in
    let la : length (chunk at 8 a) ≡ 8 = length-chunk at 8 a (omega arith) in
    let lb : length (chunk at 8 b) ≡ 8 = length-chunk at 8 b (omega arith) in
    let lf : length (chunk at 8 fs) ≡ 8 = length-chunk at 8 fs (omega arith) in
    let long : length (kept_if_above (chunk at 8 a) (chunk at 8 b) (chunk at 8 fs)) ≡ 8 =
    length-kept_if_above (chunk at 8 a) (chunk at 8 b) (chunk at 8 fs) (omega (arith, la, lb))
    (omega (arith, la, lf)) ∙ la in
    ap (λ l. take (at + 8) (put_chunk at gs (kept_if_above (chunk at 8 a) (chunk at 8 b) (take 8 l)))) ahead
    ∙ take_more_put_chunk at gs ys (at + 8) (omega (arith, long)) (omega arith)
    ∙ ap (λ l. l ++ ys) done
    ∙ kept_if_above_more at 8 a b fs room sb sf

pub keep_above_one : (at x : ℕ) (a b fs gs : List ℕ) → at < length a → length b ≡ length a → length fs ≡ length a
    → take at gs ≡ kept_if_above (take at a) (take at b) (take at fs)
    → x ≡ cond (ltb (get_or b at 0) (get_or a at 0)) (get_or fs at 0) 0 → length gs ≡ length a
    → take (at + 1) (set gs at x) ≡ kept_if_above (take (at + 1) a) (take (at + 1) b) (take (at + 1) fs)
keep_above_one at x a b fs gs room sb sf done is sg =
    take_more_set gs at x (omega arith)
    ∙ ap (λ l. l ++ x ∷ []) done
    ∙ ap (λ n. kept_if_above (take at a) (take at b) (take at fs) ++ n ∷ []) is
    ∙ ap (λ l. kept_if_above (take at a) (take at b) (take at fs) ++ kept_if_above l (get_or b at 0 ∷ [])
    (get_or fs at 0 ∷ [])) (sym (chunk_one at a (omega arith)))
    ∙ ap (λ l. kept_if_above (take at a) (take at b) (take at fs)
    ++ kept_if_above (chunk at 1 a) l (get_or fs at 0 ∷ [])) (sym (chunk_one at b (omega arith)))
    ∙ ap (λ l. kept_if_above (take at a) (take at b) (take at fs) ++ kept_if_above (chunk at 1 a) (chunk at 1 b) l)
    (sym (chunk_one at fs (omega arith)))
    ∙ kept_if_above_more at 1 a b fs (omega arith) sb sf

pub length-keep_equal : (w at : ℕ) (vs fs : List ℕ) → at + 8 ≤ length vs → length fs ≡ length vs
    → length (zip2 (kept_if_equal w) (chunk at 8 vs) (chunk at 8 fs)) ≡ 8
length-keep_equal w at vs fs room sf = search (arith, length-chunk, length-zip2)

pub length-keep_above : (at : ℕ) (a b fs : List ℕ) → at + 8 ≤ length a → length b ≡ length a → length fs ≡ length a
    → length (kept_if_above (chunk at 8 a) (chunk at 8 b) (chunk at 8 fs)) ≡ 8
length-keep_above at a b fs room sb sf = search (arith, length-chunk, length-kept_if_above)

pub drop-set : (xs : List ℕ) (at x : ℕ) → drop (at + 1) (set xs at x) ≡ drop (at + 1) xs
drop-set xs at x = drop-set-lt (at + 1) xs at x (omega arith)
