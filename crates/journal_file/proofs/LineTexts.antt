-- Texts of lines.
use Rattle.std.proofs.Common.{◌≡◌, ◌⊎◌, inl, inr, ℕ, zero, suc, true, false, List, [], ◌∷◌, ◌++◌, take, All, refl, ◌∙◌}
use Rattle.std.proofs.Common.{ap, arith}
use Rattle.journal_file.specs.Committed.{has_line, committed, IsInLine, joined, BeginsWithLines}
use Rattle.journal_file.proofs.Lines.{line-end, line-other, line-goes-on, ends}

-- a line that has begun has not ended
none_inside : (k : ℕ) (line : List ℕ) → IsInLine line → has_line (take k line) ≡ false
none_inside zero line inside = refl
none_inside (suc k) [] inside = refl
none_inside (suc k) (b ∷ line) inside = line-other b (take k line) inside.0 inside.1 ∙ none_inside k line inside.2

line_found : (line rest : List ℕ) → IsInLine line → has_line (line ++ 10 ∷ rest) ≡ true
line_found [] rest inside = line-end 10 rest refl
line_found (b ∷ line) rest inside = line-other b (line ++ 10 ∷ rest) inside.0 inside.1 ∙ line_found line rest inside.2

pub committed-line : (line rest : List ℕ) → IsInLine line → committed (line ++ 10 ∷ rest) ≡ line ++ 10 ∷ committed rest
committed-line [] rest inside = line-goes-on 10 rest (line-end 10 rest refl)
committed-line (b ∷ line) rest inside =
    line-goes-on b (line ++ 10 ∷ rest) (line_found (b ∷ line) rest inside)
    ∙ ap (λ (l : List ℕ). b ∷ l) (committed-line line rest inside.2)

-- a beginning ends in the line or after it
ends_where : (k : ℕ) (line rest : List ℕ) → (take k (line ++ 10 ∷ rest) ≡ take k line)
    ⊎ ((m : ℕ) × (take k (line ++ 10 ∷ rest) ≡ line ++ 10 ∷ take m rest))
ends_where zero line rest = inl refl
ends_where (suc k) [] rest = inr (k, refl)
ends_where (suc k) (b ∷ line) rest = elim (ends_where k line rest) [
  | inl inside ↦ inl (ap (λ (l : List ℕ). b ∷ l) inside)
  | inr behind ↦ inr (behind.0, ap (λ (l : List ℕ). b ∷ l) behind.1)
]

head_in : (line : List ℕ) (lines : List (List ℕ)) → All IsInLine (line ∷ lines) → IsInLine line
head_in line lines all = all 0 [] (omega arith)

rest_in : (line : List ℕ) (lines : List (List ℕ)) → All IsInLine (line ∷ lines) → All IsInLine lines
rest_in line lines all = λ k d lt. all (suc k) d (omega arith)

pub committed-lines : (lines : List (List ℕ)) → All IsInLine lines → committed (joined lines) ≡ joined lines
committed-lines [] all = refl
committed-lines (line ∷ lines) all =
    committed-line line (joined lines) (head_in line lines all)
    ∙ ap (λ (l : List ℕ). line ++ 10 ∷ l) (committed-lines lines (rest_in line lines all))

pub first_lines : (lines : List (List ℕ)) → All IsInLine lines → (k : ℕ)
    → (j : ℕ) × (committed (take k (joined lines)) ≡ joined (take j lines))
first_lines [] all zero = (0, refl)
first_lines [] all (suc k) = (0, refl)
first_lines (line ∷ lines) all k = elim (ends_where k line (joined lines)) [
  | inl inside ↦ (0, ap committed inside ∙ ends (take k line) (none_inside k line (head_in line lines all)))
  | inr behind ↦
      let more = first_lines lines (rest_in line lines all) behind.0 in (
        suc more.0,
        ap committed behind.1 ∙ committed-line line (take behind.0 (joined lines)) (head_in line lines all)
            ∙ ap (λ (l : List ℕ). line ++ 10 ∷ l) more.1,
      )
]

pub begins_with_lines : BeginsWithLines
begins_with_lines lines all = (committed-lines lines all, first_lines lines all)
