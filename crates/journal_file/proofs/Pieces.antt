-- Lines that are written a few at a time.
use Rattle.std.proofs.Common.{◌≡◌, inl, inr, ℕ, zero, suc, ◌+◌, ◌-◌, ◌≤◌, ◌<◌, List, [], ◌∷◌, ◌++◌, length, take, drop}
use Rattle.std.proofs.Common.{All, min, refl, sym, ◌∙◌, ap, subst, arith, append_assoc, length-append}
use Rattle.std.proofs.Math.Seq.{take-append-add}
use Rattle.std.proofs.lemmas.List.{take_all, take_at, drop_at, get_or-drop, length-take}
use Rattle.journal_file.specs.Committed.{committed, joined, HasShortLines, IsBegun, IsInLine}
use Rattle.journal_file.specs.Device.{LeavesOnly}
use Rattle.journal_file.specs.Settled.{IsSettled}
use Rattle.journal_file.specs.declared.committed.TheConstants.{LONGEST_WRITE}
use Rattle.journal_file.specs.declared.journal.CommittedLines.{CommittedLines}
use Rattle.journal_file.proofs.Chain.{begun_first, chain}
use Rattle.journal_file.proofs.Crash.{below_or_not, text_fits}
use Rattle.journal_file.proofs.Lines.{committed-twice}
use Rattle.journal_file.proofs.LineTexts.{committed-line, committed-lines, first_lines}
use Rattle.journal_file.proofs.Moments.{weaker}

-- as many of the first as there are
pub take_min : (n : ℕ) (xs : List ℕ) → take (min (length xs) n) xs ≡ take n xs
take_min n xs = elim (below_or_not n (length xs)) [
  | inl lt ↦ let is : min (length xs) n ≡ n = omega (arith, lt) in ap (λ (m : ℕ). take m xs) is
  | inr le ↦
      let is : min (length xs) n ≡ length xs = omega (arith, le) in
      ap (λ (m : ℕ). take m xs) is ∙ take_all (length xs) xs (omega arith) ∙ sym (take_all n xs le)
]

joined-split : (j : ℕ) (lines : List (List ℕ)) → joined lines ≡ joined (take j lines) ++ joined (drop j lines)
joined-split zero lines = refl
joined-split (suc j) [] = refl
joined-split (suc j) (l ∷ ls) =
    ap (λ (t : List ℕ). l ++ 10 ∷ t) (joined-split j ls)
    ∙ sym (append_assoc l (10 ∷ joined (take j ls)) (joined (drop j ls)))

drop-all : (P : List ℕ → Type 0) (j : ℕ) (lines : List (List ℕ)) → All P lines → All P (drop j lines)
drop-all P j lines all = λ k d lt. subst P (sym (get_or-drop j lines k d)) (all (j + k) d (in_front j lines k lt))
  where
    in_front : (j : ℕ) (lines : List (List ℕ)) (k : ℕ) → k < length (drop j lines) → j + k < length lines
    in_front zero lines k lt = omega (arith, lt)
    in_front (suc j) [] k lt = absurd (omega (arith, lt))
    in_front (suc j) (l ∷ ls) k lt = omega (arith, in_front j ls k lt)

-- a line that is short enough is among the first
front-some : (line rest : List ℕ) (n : ℕ) → IsInLine line → length line < n
    → 0 < length (committed (take n (line ++ 10 ∷ rest)))
front-some line rest n inside lt =
    let m = n - length line - 1 in
    let at : n ≡ length line + suc m = omega (arith, lt) in
    let front = ap (λ (k : ℕ). take k (line ++ 10 ∷ rest)) at ∙ take-append-add line (10 ∷ rest) (suc m) in
    let is = ap (λ (l : List ℕ). length (committed l)) front ∙ ap length (committed-line line (take m rest) inside) in
    omega (arith, is, length-append line (10 ∷ committed (take m rest)))

-- The lines that one write may have of a text: whole lines in front of whole lines.
pub record IsPiece (text : List ℕ) (n : ℕ) : Type 0 where
  pub fits : n ≤ length text
  pub few : n ≤ LONGEST_WRITE
  pub some : 0 < length text → 0 < n
  pub whole : committed (take n text) ≡ take n text
  pub more : HasShortLines (drop n text)

some-of : (lines : List (List ℕ)) (text : List ℕ) → text ≡ joined lines → All IsInLine lines
    → All (λ line. length line < LONGEST_WRITE) lines → 0 < length text
    → 0 < length (committed (take LONGEST_WRITE text))
some-of [] text is inside short some = absurd (omega (arith, some, ap length is))
some-of (l ∷ ls) text is inside short some =
    subst (λ (t : List ℕ). 0 < length (committed (take LONGEST_WRITE t))) (sym is)
    (front-some l (joined ls) LONGEST_WRITE (inside 0 [] (omega arith)) (short 0 [] (omega arith)))

pub piece-of : (text : List ℕ) (n : ℕ) → HasShortLines text → n ≡ length (committed (take LONGEST_WRITE text))
    → IsPiece text n
piece-of text n lines is =
    let first = first_lines lines.lines lines.inside LONGEST_WRITE in
    let j = first.0 in
    let front = joined (take j lines.lines) in
    let front_is : committed (take LONGEST_WRITE text) ≡ front =
    ap (λ (t : List ℕ). committed (take LONGEST_WRITE t)) lines.is ∙ first.1 in
    let split : text ≡ front ++ joined (drop j lines.lines) = lines.is ∙ joined-split j lines.lines in
    let count : n ≡ length front = is ∙ ap length front_is in
    let piece : take n text ≡ front =
    ap (λ (t : List ℕ). take n t) split ∙ take_at front (joined (drop j lines.lines)) n (sym count) in
    let rest : drop n text ≡ joined (drop j lines.lines) =
    ap (λ (t : List ℕ). drop n t) split ∙ drop_at front (joined (drop j lines.lines)) n (sym count) in
    record {
      fits = omega (arith, count, ap length split, length-append front (joined (drop j lines.lines)));
      few = omega (arith, is, text_fits (take LONGEST_WRITE text), length-take LONGEST_WRITE text);
      some = λ some. omega (arith, is, some-of lines.lines text lines.is lines.inside lines.short some);
      whole =
          ap committed (piece ∙ sym front_is) ∙ committed-twice (take LONGEST_WRITE text) ∙ front_is ∙ sym piece;
      more = record {
        lines = drop j lines.lines;
        is = rest;
        inside = drop-all IsInLine j lines.lines lines.inside;
        short = drop-all (λ line. length line < LONGEST_WRITE) j lines.lines lines.short;
      };
    }

pub whole-lines : (text : List ℕ) → HasShortLines text → committed text ≡ text
whole-lines text lines = ap committed lines.is ∙ committed-lines lines.lines lines.inside ∙ sym lines.is

-- Of these lines all but the rest are written.
pub record HasPut {D : Type 0} (seen : D → List ℕ) (may_leave : D → List ℕ → Type 0) (moment : D → ℕ)
    (left_since : D → ℕ → List ℕ → Type 0) (faults : D → ℕ) (old now : CommittedLines D) (lines rest : List ℕ)
    : Type 0 where
  pub done : List ℕ
  pub split : lines ≡ done ++ rest
  pub whole : committed done ≡ done
  pub short : HasShortLines rest
  pub settled : IsSettled seen may_leave now
  pub has : committed (seen now.device) ≡ committed (seen old.device) ++ done
  pub room : length rest < now.room
  pub leaves : LeavesOnly moment left_since old.device now.device (IsBegun (committed (seen old.device)) done)
  pub risen : faults old.device ≤ faults now.device

-- a piece more, and what a crash leaves of all lines
pub piece-leaves : {D : Type 0} (seen : D → List ℕ) (moment : D → ℕ) (left_since : D → ℕ → List ℕ → Type 0)
    (old now new : D) (done piece more lines : List ℕ) → committed (seen now) ≡ committed (seen old) ++ done
    → committed done ≡ done → lines ≡ done ++ (piece ++ more)
    → LeavesOnly moment left_since old now (IsBegun (committed (seen old)) done)
    → LeavesOnly moment left_since now new (IsBegun (committed (seen now)) piece)
    → LeavesOnly moment left_since old new (IsBegun (committed (seen old)) lines)
piece-leaves seen moment left_since old now new done piece more lines has whole split before put =
    let text = committed (seen old) in
    let all : lines ≡ (done ++ piece) ++ more = split ∙ sym (append_assoc done piece more) in
    weaker moment left_since old new (IsBegun text (done ++ piece)) (IsBegun text lines)
    (chain moment left_since old now new text done piece (committed (seen now)) has whole before put)
    (λ c begun. subst (λ (l : List ℕ). IsBegun text l c) (sym all) (begun_first text (done ++ piece) more c begun))
