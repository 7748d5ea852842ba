-- The digits of a number, and of the next one.
use Rattle.std.proofs.Common.{◌≡◌, ◌≢◌, ◌<◌, ◌≤◌, ◌+◌, ◌/◌, ◌%◌, ◌^◌, ◌++◌, ◌∷◌, [], ◌∙◌, ℕ, List, length, take, drop}
use Rattle.std.proofs.Common.{decimal, get_or, ap, sym, arith, inl, inr, length-append, length-take-le}
use Rattle.std.proofs.lemmas.Bool.{cases_lt}
use Rattle.std.proofs.lemmas.Fmt.{decimal_digit, decimal_step}
use Rattle.std.proofs.lemmas.List.{drop-append-le, drop-take, length-drop}
use Rattle.std.proofs.Math.ListN.{set}
use Rattle.std.proofs.Math.Seq.{take-suc, take-suc-set, take-append_seam, get_or-append_seam}
use Rattle.printed_lines.specs.NumberText.{HasDigitsOf}

-- the digits of a number are these, and then its last one
abbrev pub HasLastDigit : ℕ → List ℕ → Type 0
HasLastDigit n front = decimal n ≡ front ++ (48 + n % 10) ∷ []

-- a number and the next one have the same digits but for the last one, where the next one doesn't end in 0
pub same_front : (n : ℕ) → n + 1 < 2 ^ 64 → ((n + 1) % 10 ≢ 0)
    → (front : List ℕ) × HasLastDigit n front × HasLastDigit (n + 1) front
same_front n fits last =
    elim (cases_lt n 10) [
      | inl short ↦
          let few : n + 1 < 10 = omega (arith, last) in
          let same : n % 10 ≡ n = omega arith in
          let next : (n + 1) % 10 ≡ n + 1 = omega arith in
          ([], rw same (decimal_digit n short), rw next (decimal_digit (n + 1) few))
      | inr long ↦
          let same : (n + 1) / 10 ≡ n / 10 = omega (arith, last) in (
            decimal (n / 10),
            decimal_step n (omega arith) (omega arith),
            decimal_step (n + 1) (omega arith) fits ∙ ap (λ k. decimal k ++ (48 + (n + 1) % 10) ∷ []) same,
          )
    ]

-- bytes up to and with one are those before it, and it
front-of : (bytes : List ℕ) (begin : ℕ) → begin ≤ 19 → 20 ≤ length bytes
    → drop begin (take 20 bytes) ≡ drop begin (take 19 bytes) ++ get_or bytes 19 0 ∷ []
front-of bytes begin within room =
    ap (drop begin) (take-suc bytes 19 0 (omega (arith, room)))
    ∙ drop-append-le begin (take 19 bytes) _ (omega (arith, length-take-le 19 bytes (omega (arith, room)), within))

-- the last digit is written over
pub last-written : (bytes : List ℕ) (begin x : ℕ) → begin ≤ 19 → 20 ≤ length bytes
    → drop begin (take 20 (set bytes 19 x)) ≡ drop begin (take 19 bytes) ++ x ∷ []
last-written bytes begin x within room =
    ap (drop begin) (take-suc-set bytes 19 x (omega (arith, room)))
    ∙ drop-append-le begin (take 19 bytes) _ (omega (arith, length-take-le 19 bytes (omega (arith, room)), within))

-- digits that end at a place are those from their beginning up to it
pub digits-written : (bytes : List ℕ) (begin : ℕ) (digits rest : List ℕ) → begin + length digits ≡ 20
    → drop begin bytes ≡ digits ++ rest → drop begin (take 20 bytes) ≡ digits
digits-written bytes begin digits rest ends is =
    ap (λ n. drop begin (take n bytes)) (sym ends) ∙ drop-take begin (length digits) bytes
    ∙ ap (take (length digits)) is ∙ take-append_seam digits rest

-- where two lists of one more element are the same, so are the elements before it, if they are as many
same-before : (xs ys : List ℕ) (x y : ℕ) → length xs ≡ length ys → xs ++ x ∷ [] ≡ ys ++ y ∷ [] → xs ≡ ys
same-before xs ys x y long is =
    sym (take-append_seam xs (x ∷ [])) ∙ ap (λ n. take n (xs ++ x ∷ [])) long ∙ ap (take (length ys)) is
    ∙ take-append_seam ys (y ∷ [])

-- and so is that element
same-last : (xs ys : List ℕ) (x y : ℕ) → length xs ≡ length ys → xs ++ x ∷ [] ≡ ys ++ y ∷ [] → x ≡ y
same-last xs ys x y long is =
    sym (get_or-append_seam xs x [] 0) ∙ ap (λ n. get_or (xs ++ x ∷ []) n 0) long
    ∙ ap (λ zs. get_or zs (length ys) 0) is ∙ get_or-append_seam ys y [] 0

-- the length of digits with a last one
length-front : (n : ℕ) (front : List ℕ) → HasLastDigit n front → length (decimal n) ≡ length front + 1
length-front n front is = ap length is ∙ length-append front _

-- the next number's digits are there once its last one is written
pub next-digits : (n begin : ℕ) (bytes : List ℕ) → 20 ≤ length bytes → n + 1 < 2 ^ 64 → ((n + 1) % 10 ≢ 0)
    → HasDigitsOf n bytes begin
    → (get_or bytes 19 0 ≡ 48 + n % 10) × HasDigitsOf (n + 1) (set bytes 19 (get_or bytes 19 0 + 1)) begin
next-digits n begin bytes room fits last (ends, digits) =
    let (front, now, next) = same_front n fits last in
    let count = length-front n front now in
    let within : begin ≤ 19 = omega (arith, ends, count) in
    let both = sym (front-of bytes begin within room) ∙ digits ∙ now in
    let long : length (drop begin (take 19 bytes)) ≡ length front
    = length-drop begin (take 19 bytes)
    ∙ omega (arith, ends, count, length-take-le 19 bytes (omega (arith, room))) in
    let before = same-before (drop begin (take 19 bytes)) front _ _ long both in
    let digit = same-last (drop begin (take 19 bytes)) front _ _ long both in
    let one : get_or bytes 19 0 + 1 ≡ 48 + (n + 1) % 10 = omega (arith, digit, last) in
    let digits_after : drop begin (take 20 (set bytes 19 (get_or bytes 19 0 + 1))) ≡ decimal (n + 1)
    = last-written bytes begin (get_or bytes 19 0 + 1) within room
    ∙ ap (λ xs. xs ++ (get_or bytes 19 0 + 1) ∷ []) before ∙ ap (λ x. front ++ x ∷ []) one ∙ sym next in
    (digit, (omega (arith, ends, count, length-front (n + 1) front next), digits_after))
