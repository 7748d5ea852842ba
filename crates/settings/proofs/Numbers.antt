-- The texts of numbers.
use Rattle.std.proofs.Common.{◌≡◌, ◌<◌, ◌==◌, ◌^◌, ap, ℕ, Bool, true, false, cond, drop, refl, sym, subst, arith, List}
use Rattle.std.proofs.Common.{[], ◌∷◌, Option, Some, None, Result, Ok, Err}
use Rattle.std.specs.Prelude.{pos, unwrap_or}
use Rattle.std.specs.Str.Parse.{IsNumeral, ParsesUnsigned, starts_with_minus, without_leading_plus}
use Rattle.std.proofs.lemmas.Bool.{ne_eqb}
use Rattle.std.proofs.lemmas.Int.{ints}
use Rattle.std.proofs.lemmas.Str.Parse.{digit_from_value}
use Rattle.clap.specs.Lexer.{without_minus}
use Rattle.clap.specs.Matches.{ReadsOne}
use Rattle.clap.specs.Values.{IsSignedIn}
use Rattle.settings.specs.OptionTexts.{IsNumberIn}
use Rattle.settings.specs.NumberTexts.{number_in}

minus_off : (t : List ℕ) → without_minus t ≡ cond (starts_with_minus t) (drop 1 t) t
minus_off [] = refl
minus_off (x ∷ xs) = by_test (x == 45)
  where
    by_test : (b : Bool) → unwrap_or (cond b (Some xs) None) (x ∷ xs) ≡ cond b xs (x ∷ xs)
    by_test true = refl
    by_test false = refl

no_plus : (ds : List ℕ) → IsNumeral 10 ds → without_leading_plus ds ≡ ds
no_plus [] h = refl
no_plus (d ∷ ds) h =
    let plus : (d == 43) ≡ false = ne_eqb _ _ (λ e. omega (arith, digit_from_value d h.1.0)) in
    ap (λ (b : Bool). drop (cond b 1 0) (d ∷ ds)) plus

-- a text that passed a range is a number in it, with its minus taken off
pub passed_text : (low high : ℕ) (t : List ℕ) → IsSignedIn (pos low) (pos high) t
    → IsNumberIn low high (without_minus t)
passed_text low high t passed = subst (IsNumberIn low high) (sym (minus_off t)) (by_test (starts_with_minus t) refl)
  where
    by_test : (b : Bool) → starts_with_minus t ≡ b → IsNumberIn low high (cond (starts_with_minus t) (drop 1 t) t)
    by_test true minus =
        let numeral : IsNumeral 10 (drop 1 t) = rw minus at passed.0 in
        let low_ok = rw minus at passed.2 in
        rw (minus, no_plus (drop 1 t) numeral) (numeral, omega (arith, ints), omega (arith, ints))
    by_test false minus =
        let numeral = rw minus at passed.0 in
        let low_ok = rw minus at passed.2 in
        let high_ok = rw minus at passed.3 in
        rw minus (numeral, omega (arith, ints), omega (arith, ints))

-- such a text reads as its number
pub number_read : (E : Type 0) (G : List ℕ → Result ℕ E → Type 0) (low high : ℕ) (t : List ℕ) (r : Option ℕ)
    → ReadsOne G t r
    → ((x : Result ℕ E) → G t x → ParsesUnsigned 32 10 t x) → high < 2 ^ 32 → IsNumberIn low high t
    → r ≡ Some (number_in t)
number_read E G low high t (Some n) read parses fits is = ap (λ n. Some n) (parses (Ok n) read).1
number_read E G low high t None read parses fits is = absurd (parses (Err read.0) read.1 (is.0, omega arith))
