-- The end of the last whole line.
use Rattle.std.proofs.Common.{◌≡◌, ◌≢◌, inl, inr, ℕ, zero, suc, ◌+◌, ◌<◌, ◌≤◌, true, false, List, [], ◌∷◌, length, take}
use Rattle.std.proofs.Common.{Option, Some, None, refl, sym, ◌∙◌, ap, arith, eq-eqb}
use Rattle.std.specs.Prelude.{slice_index, unwrap_or}
use Rattle.std.proofs.lemmas.Bool.{cases_eq, eqb-true}
use Rattle.std.proofs.lemmas.List.{length-take}
use Rattle.memchr.specs.Find.{IsFirstByte, IsLastByte, is_byte}
use Rattle.journal_file.specs.Committed.{has_line, committed}
use Rattle.journal_file.proofs.Lines.{line-nul, line-end, line-other, line-goes-on, ends}

-- the first `n` bytes have no NUL, and after them is one or the end
pub record IsTextBeforeNul (n : ℕ) (xs : List ℕ) : Type 0 where
  pub fits : n ≤ length xs
  pub some : (k : ℕ) → k < n → slice_index xs k ≢ 0
  pub nul : n < length xs → slice_index xs n ≡ 0

rest : (n b : ℕ) (xs : List ℕ) → IsTextBeforeNul (suc n) (b ∷ xs) → IsTextBeforeNul n xs
rest n b xs text = record {
  fits = omega (arith, text.fits);
  some = λ k lt. text.some (suc k) (omega (arith, lt));
  nul = λ lt. text.nul (omega (arith, lt));
}

no_line : (n : ℕ) (xs : List ℕ) → IsTextBeforeNul n xs → ((k : ℕ) → k < n → slice_index xs k ≢ 10) → has_line xs ≡ false
no_line zero [] text none = refl
no_line zero (b ∷ xs) text none = line-nul b xs (text.nul (omega arith))
no_line (suc n) [] text none = absurd (omega (arith, text.fits))
no_line (suc n) (b ∷ xs) text none =
    line-other b xs (text.some 0 (omega arith)) (none 0 (omega arith))
    ∙ no_line n xs (rest n b xs text) (λ k lt. none (suc k) (omega (arith, lt)))

a_line : (n k : ℕ) (xs : List ℕ) → IsTextBeforeNul n xs → k < n → slice_index xs k ≡ 10 → has_line xs ≡ true
a_line zero k xs text lt is = absurd (omega (arith, lt))
a_line (suc n) k [] text lt is = absurd (omega (arith, text.fits))
a_line (suc n) zero (b ∷ xs) text lt is = line-end b xs is
a_line (suc n) (suc k) (b ∷ xs) text lt is = elim (cases_eq b 10) [
  | inl end ↦ line-end b xs end
  | inr other ↦
      line-other b xs (text.some 0 (omega arith)) other ∙ a_line n k xs (rest n b xs text) (omega (arith, lt)) is
]

last_line : (n last : ℕ) (xs : List ℕ) → IsTextBeforeNul n xs → last < n → slice_index xs last ≡ 10
    → ((k : ℕ) → last < k → k < n → slice_index xs k ≢ 10) → take (suc last) xs ≡ committed xs
last_line zero last xs text lt is none = absurd (omega (arith, lt))
last_line (suc n) last [] text lt is none = absurd (omega (arith, text.fits))
last_line (suc n) zero (b ∷ xs) text lt is none =
    let behind = no_line n xs (rest n b xs text) (λ k k_lt. none (suc k) (omega arith) (omega (arith, k_lt))) in
    sym (line-goes-on b xs (line-end b xs is) ∙ ap (λ (l : List ℕ). b ∷ l) (ends xs behind))
last_line (suc n) (suc last) (b ∷ xs) text lt is none =
    ap (λ (l : List ℕ). b ∷ l) (last_line n last xs (rest n b xs text) (omega (arith, lt)) is
    (λ k above k_lt. none (suc k) (omega (arith, above)) (omega (arith, k_lt))))
    ∙ sym (line-goes-on b xs (a_line (suc n) (suc last) (b ∷ xs) text lt is))

index-take : (n k : ℕ) (xs : List ℕ) → k < n → slice_index (take n xs) k ≡ slice_index xs k
index-take zero k xs lt = absurd (omega (arith, lt))
index-take (suc n) k [] lt = refl
index-take (suc n) zero (b ∷ xs) lt = refl
index-take (suc n) (suc k) (b ∷ xs) lt = index-take n k xs (omega (arith, lt))

pub text-is : (xs : List ℕ) (nul : Option ℕ) → IsFirstByte (is_byte 0) xs nul
    → IsTextBeforeNul (unwrap_or nul (length xs)) xs
text-is xs None first = record {
  fits = omega arith;
  some = λ k lt is. first k (omega arith) lt (eq-eqb (slice_index xs k) 0 is);
  nul = λ lt. absurd (omega (arith, lt));
}
text-is xs (Some n) first = record {
  fits = omega (arith, first.0.high);
  some = λ k lt is. first.0.before k (omega arith) lt (eq-eqb (slice_index xs k) 0 is);
  nul = λ lt. eqb-true (slice_index xs n) 0 first.1;
}

module _ (n : ℕ) (xs : List ℕ) (text : IsTextBeforeNul n xs) where
  size : length (take n xs) ≡ n
  size = omega (arith, length-take n xs, text.fits)

  pub lines-none : IsLastByte (is_byte 10) (take n xs) None → committed xs ≡ []
  lines-none last =
      ends xs (no_line n xs text (λ k lt is. last k (omega arith) (omega (arith, lt, size))
      (eq-eqb (slice_index (take n xs) k) 10 (index-take n k xs lt ∙ is))))

  pub front-of-lines : (k : ℕ) → IsLastByte (is_byte 10) (take n xs) (Some k) → take (k + 1) xs ≡ committed xs
  front-of-lines k last =
      let lt : k < n = omega (arith, last.0.high, size) in
      let behind : k + 1 ≡ suc k = omega arith in
      ap (λ (m : ℕ). take m xs) behind
      ∙ last_line n k xs text lt (sym (index-take n k xs lt) ∙ eqb-true (slice_index (take n xs) k) 10 last.1)
      (λ m above m_lt is. last.0.after m (omega (arith, above)) (omega (arith, m_lt, size))
      (eq-eqb (slice_index (take n xs) m) 10 (index-take n m xs m_lt ∙ is)))

  pub end-of-lines : (k : ℕ) → IsLastByte (is_byte 10) (take n xs) (Some k) → k + 1 ≡ length (committed xs)
  end-of-lines k last = omega (
    arith,
    ap length (front-of-lines k last),
    length-take (k + 1) xs,
    last.0.high,
    size,
    text.fits,
  )
