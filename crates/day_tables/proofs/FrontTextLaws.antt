-- Texts that grow at their front.
use Rattle.std.proofs.Common.{◌≡◌, ◌∙◌, ℕ, ◌+◌, ◌≤◌, List, ◌++◌, length, take, drop, length-drop, ap, sym, arith}
use Rattle.std.proofs.lemmas.List.{drop_at, drop-drop, drop-append-le, length-take-le}
use borrow.Rule.Slice.PartMut.{put_mid}

-- from a place within the part that was written on: what is left of the part, and what lies past it
pub put-before : (a k : ℕ) (xs ys : List ℕ) (n m : ℕ) → a ≤ length xs → m ≤ length ys → n ≡ a + m
    → drop n (put_mid a k xs ys) ≡ drop m ys ++ drop (a + k) xs
put-before a k xs ys n m p q e =
    ap (λ i. drop i (put_mid a k xs ys)) e ∙ sym (drop-drop m a _)
    ∙ ap (drop m) (drop_at (take a xs) _ a (length-take-le a xs p)) ∙ drop-append-le m ys _ q
    ∙ ap (λ l. drop m ys ++ l) (drop-drop k a xs)

-- the bytes before a text and those of the text are all
pub all-bytes : (bytes text : List ℕ) (start : ℕ) → drop start bytes ≡ text → start ≤ length bytes
    → length text + start ≡ length bytes
all-bytes bytes text start e l = omega (arith, ap length e, length-drop start bytes)
