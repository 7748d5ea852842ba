-- Lines that are read byte by byte.
use Rattle.std.proofs.Common.{◌≡◌, ◌≢◌, ℕ, zero, suc, ◌+◌, ◌<◌, List, [], ◌∷◌, ◌++◌, length, All}
use Rattle.std.proofs.Common.{refl, sym, ◌∙◌, ap, arith, append_assoc, length-append}
use Rattle.std.proofs.lemmas.List.{append-nil}
use Rattle.journal_file.specs.Committed.{joined, IsInLine}
use Rattle.journal_file.specs.declared.committed.TheConstants.{LONGEST_WRITE}

-- Short lines, and this many bytes of one that hasn't ended.
pub record HasReadLines (text : List ℕ) (count : ℕ) : Type 0 where
  pub lines : List (List ℕ)
  pub begun : List ℕ
  pub is : text ≡ joined lines ++ begun
  pub inside : All IsInLine lines
  pub short : All (λ line. length line < LONGEST_WRITE) lines
  pub begun_inside : IsInLine begun
  pub begun_len : length begun ≡ count
  pub begun_short : count < LONGEST_WRITE

inside-more : (xs : List ℕ) (b : ℕ) → IsInLine xs → b ≢ 0 → b ≢ 10 → IsInLine (xs ++ b ∷ [])
inside-more [] b inside some other = (some, other, tt)
inside-more (x ∷ xs) b inside some other = (inside.0, inside.1, inside-more xs b inside.2 some other)

joined-more : (lines : List (List ℕ)) (line : List ℕ) → joined (lines ++ line ∷ []) ≡ joined lines ++ line ++ 10 ∷ []
joined-more [] line = refl
joined-more (l ∷ ls) line =
    ap (λ (t : List ℕ). l ++ 10 ∷ t) (joined-more ls line)
    ∙ ap (λ (t : List ℕ). l ++ 10 ∷ t) (append_assoc (joined ls) line (10 ∷ []))
    ∙ sym (append_assoc l (10 ∷ joined ls) (line ++ 10 ∷ []))
    ∙ sym (append_assoc (l ++ 10 ∷ joined ls) line (10 ∷ []))

all-and-last : (P : List ℕ → Type 0) (lines : List (List ℕ)) (line : List ℕ) → All P lines → P line
    → All P (lines ++ line ∷ [])
all-and-last P [] line all here zero d lt = here
all-and-last P [] line all here (suc k) d lt = absurd (omega (arith, lt))
all-and-last P (l ∷ ls) line all here zero d lt = all 0 d (omega arith)
all-and-last P (l ∷ ls) line all here (suc k) d lt =
    all-and-last P ls line (λ j e j_lt. all (suc j) e (omega (arith, j_lt))) here k d (omega (arith, lt))

pub byte-read : (text : List ℕ) (count b : ℕ) → HasReadLines text count → b ≢ 0 → b ≢ 10 → count + 1 < LONGEST_WRITE
    → HasReadLines (text ++ b ∷ []) (count + 1)
byte-read text count b so_far some other lt = record {
  lines = so_far.lines;
  begun = so_far.begun ++ b ∷ [];
  is =
      ap (λ (t : List ℕ). t ++ b ∷ []) so_far.is ∙ append_assoc (joined so_far.lines) so_far.begun (b ∷ []);
  inside = so_far.inside;
  short = so_far.short;
  begun_inside = inside-more so_far.begun b so_far.begun_inside some other;
  begun_len = omega (arith, length-append so_far.begun (b ∷ []), so_far.begun_len);
  begun_short = lt;
}

pub end-read : (text : List ℕ) (count b : ℕ) → HasReadLines text count → b ≡ 10 → HasReadLines (text ++ b ∷ []) 0
end-read text count b so_far is = record {
  lines = so_far.lines ++ so_far.begun ∷ [];
  begun = [];
  is =
      ap (λ (t : List ℕ). t ++ b ∷ []) so_far.is ∙ append_assoc (joined so_far.lines) so_far.begun (b ∷ [])
      ∙ ap (λ (x : ℕ). joined so_far.lines ++ (so_far.begun ++ x ∷ [])) is
      ∙ sym (append_assoc (joined so_far.lines) so_far.begun (10 ∷ []))
      ∙ sym (joined-more so_far.lines so_far.begun)
      ∙ sym (append-nil (joined (so_far.lines ++ so_far.begun ∷ [])));
  inside = all-and-last IsInLine so_far.lines so_far.begun so_far.inside so_far.begun_inside;
  short =
      all-and-last (λ line. length line < LONGEST_WRITE) so_far.lines so_far.begun so_far.short
      (omega (arith, so_far.begun_len, so_far.begun_short));
  begun_inside = tt;
  begun_len = refl;
  begun_short = omega arith;
}
