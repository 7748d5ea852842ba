-- Words with a space between each two, and such a text taken apart again.
use Rattle.std.proofs.Common.{◌≡◌, ◌≤◌, ◌==◌, ◌<◌, ◌++◌, ◌∷◌, ◌∙◌, [], ℕ, List, Bool, true, false, refl, ap}
use Rattle.std.proofs.Common.{append_assoc, arith, nat_le, rules}
use Rattle.std.specs.Prelude.{◌&&◌, not, if◌then◌else◌, decimal, ◌^◌}
use Rattle.std.specs.List.{list_all, AllByRecursion}
use Rattle.std.specs.Char.{is_ascii_digit}
use Rattle.std.proofs.lemmas.List.{append-nil}
use Rattle.std.proofs.lemmas.List.Folds.{list_all-append}
use Rattle.std.proofs.lemmas.Bool.{ne_eqb}
use Rattle.journal.specs.PlainLines.{IsPlain, is_plain_byte}
use Rattle.journal.specs.EntryRecord.{is_printable}
use Rattle.journal.proofs.RecordLineLaws.{and-left, and-right}
use Rattle.journal.proofs.CallFieldLaws.{decimal-all_digits, digit-range}

abbrev pub spaced_after : List (List ℕ) → List ℕ
spaced_after [] = []
spaced_after (w ∷ ws) = 32 ∷ (w ++ spaced_after ws)

abbrev pub spaced : List (List ℕ) → List ℕ
spaced [] = []
spaced (w ∷ ws) = w ++ spaced_after ws

abbrev pub words_from : List ℕ → List ℕ → List (List ℕ)
words_from word [] = word ∷ []
words_from word (b ∷ bs) = if b == 32 then word ∷ words_from [] bs else words_from (word ++ (b ∷ [])) bs

abbrev pub is_letter : ℕ → Bool
is_letter b = not (b == 32) && (is_plain_byte b && is_printable b)

abbrev pub IsWord : List ℕ → Type 0
IsWord w = list_all is_letter w ≡ true

not-space : (x : Bool) → not x ≡ true → x ≡ false
not-space true e = cc e
not-space false e = refl

words-run : (word x tail : List ℕ) → IsWord x → words_from word (x ++ tail) ≡ words_from (word ++ x) tail
words-run word [] tail e = rw (append-nil word) refl
words-run word (b ∷ rest) tail e =
    let space : (b == 32) ≡ false = not-space (b == 32) (and-left _ _ (and-left _ _ e)) in
    rw space (words-run (word ++ (b ∷ [])) rest tail (and-right _ _ e)
    ∙ ap (λ (w : List ℕ). words_from w tail) (append_assoc word (b ∷ []) rest))

words-after : (word w : List ℕ) (ws : List (List ℕ)) → IsWord w → AllByRecursion IsWord ws
    → words_from word (w ++ spaced_after ws) ≡ (word ++ w) ∷ ws
words-after word w [] e es = words-run word w [] e
words-after word w (v ∷ vs) e es =
    words-run word w (32 ∷ (v ++ spaced_after vs)) e
    ∙ ap (λ (t : List (List ℕ)). (word ++ w) ∷ t) (words-after [] v vs es.0 es.1)

pub words-spaced : (w : List ℕ) (ws : List (List ℕ)) → AllByRecursion IsWord (w ∷ ws)
    → words_from [] (spaced (w ∷ ws)) ≡ w ∷ ws
words-spaced w ws es = words-after [] w ws es.0 es.1

-- what passes one test passes another
pub all-pass : (p q : ℕ → Bool) → ((b : ℕ) → p b ≡ true → q b ≡ true) → (xs : List ℕ) → list_all p xs ≡ true
    → list_all q xs ≡ true
all-pass p q h [] e = refl
all-pass p q h (x ∷ xs) e =
    let first : q x ≡ true = h x (and-left (p x) (list_all p xs) e) in
    let rest : list_all q xs ≡ true = all-pass p q h xs (and-right (p x) (list_all p xs) e) in
    rw (first, rest) refl

word-plain : (w : List ℕ) → IsWord w → IsPlain w
word-plain w e =
    all-pass is_letter is_plain_byte
    (λ b h. and-left (is_plain_byte b) (is_printable b)
    (and-right (not (b == 32)) (is_plain_byte b && is_printable b) h)) w e

word-printable : (w : List ℕ) → IsWord w → list_all is_printable w ≡ true
word-printable w e =
    all-pass is_letter is_printable
    (λ b h. and-right (is_plain_byte b) (is_printable b)
    (and-right (not (b == 32)) (is_plain_byte b && is_printable b) h)) w e

-- what a space and each word passes, words with spaces between them pass
pass-behind : (p : ℕ → Bool) → p 32 ≡ true → ((w : List ℕ) → IsWord w → list_all p w ≡ true) → (ws : List (List ℕ))
    → AllByRecursion IsWord ws
    → list_all p (spaced_after ws) ≡ true
pass-behind p space one [] es = refl
pass-behind p space one (w ∷ ws) es =
    rw (space, list_all-append p w (spaced_after ws), one w es.0, pass-behind p space one ws es.1) refl

pass-spaced : (p : ℕ → Bool) → p 32 ≡ true → ((w : List ℕ) → IsWord w → list_all p w ≡ true) → (ws : List (List ℕ))
    → AllByRecursion IsWord ws
    → list_all p (spaced ws) ≡ true
pass-spaced p space one [] es = refl
pass-spaced p space one (w ∷ ws) es =
    rw (list_all-append p w (spaced_after ws), one w es.0, pass-behind p space one ws es.1) refl

pub spaced-plain : (ws : List (List ℕ)) → AllByRecursion IsWord ws → IsPlain (spaced ws)
spaced-plain ws es = pass-spaced is_plain_byte refl word-plain ws es

pub spaced-printable : (ws : List (List ℕ)) → AllByRecursion IsWord ws → list_all is_printable (spaced ws) ≡ true
spaced-printable ws es = pass-spaced is_printable refl word-printable ws es

digit-letter : (d : ℕ) → is_ascii_digit d ≡ true → is_letter d ≡ true
digit-letter d h =
    let r = digit-range d h in
    let space : (d == 32) ≡ false = ne_eqb d 32 (λ e. absurd (omega (arith, e, r.0))) in
    let comma : (d == 44) ≡ false = ne_eqb d 44 (λ e. absurd (omega (arith, e, r.0))) in
    let quote : (d == 34) ≡ false = ne_eqb d 34 (λ e. absurd (omega (arith, e, r.0))) in
    let cr : (d == 13) ≡ false = ne_eqb d 13 (λ e. absurd (omega (arith, e, r.0))) in
    let lf : (d == 10) ≡ false = ne_eqb d 10 (λ e. absurd (omega (arith, e, r.0))) in
    let above : 32 ≤ d = omega (arith, r.0) in
    let below : d ≤ 126 = omega (arith, r.1) in
    let low : nat_le 32 d ≡ true = search rules in
    let high : nat_le d 126 ≡ true = search rules in
    rw (space, comma, quote, cr, lf, low, high) refl

pub decimal-word : (n : ℕ) → n < 2 ^ 64 → IsWord (decimal n)
decimal-word n h = all-pass is_ascii_digit is_letter digit-letter (decimal n) (decimal-all_digits n h)

pub decimal-plain : (n : ℕ) → n < 2 ^ 64 → IsPlain (decimal n)
decimal-plain n h = word-plain (decimal n) (decimal-word n h)
