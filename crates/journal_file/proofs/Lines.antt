-- What texts of lines and room mean.
use Rattle.std.proofs.Common.{◌≡◌, ◌≢◌, ◌⊎◌, inl, inr, ℕ, zero, suc, ◌<◌, Bool, true, false, List, [], ◌∷◌, ◌++◌}
use Rattle.std.proofs.Common.{length, take, drop, get_or, replicate, refl, sym, ◌∙◌, ap, arith}
use Rattle.std.proofs.lemmas.Bool.{cases_eq}
use Rattle.std.proofs.lemmas.Bool.Decides.{nat_tests}
use Rattle.std.proofs.lemmas.List.{append-nil}
use Rattle.journal_file.specs.Committed.{has_line, committed}

pub line-nul : (b : ℕ) (rest : List ℕ) → b ≡ 0 → has_line (b ∷ rest) ≡ false
line-nul b rest is = grind (arith, nat_tests)

pub line-end : (b : ℕ) (rest : List ℕ) → b ≡ 10 → has_line (b ∷ rest) ≡ true
line-end b rest is = grind (arith, nat_tests)

pub line-other : (b : ℕ) (rest : List ℕ) → b ≢ 0 → b ≢ 10 → has_line (b ∷ rest) ≡ has_line rest
line-other b rest some other = grind (arith, nat_tests)

pub line-goes-on : (b : ℕ) (rest : List ℕ) → has_line (b ∷ rest) ≡ true → committed (b ∷ rest) ≡ b ∷ committed rest
line-goes-on b rest is = rw is refl

pub ends : (xs : List ℕ) → has_line xs ≡ false → committed xs ≡ []
ends [] none = refl
ends (b ∷ rest) none = rw none refl

pub bool_cases : (b : Bool) → (b ≡ true) ⊎ (b ≡ false)
bool_cases true = inl refl
bool_cases false = inr refl

-- what a byte is for a line
pub data Kind (b : ℕ) : Type 0 where
  is_nul : b ≡ 0 → Kind b
  is_end : b ≢ 0 → b ≡ 10 → Kind b
  is_other : b ≢ 0 → b ≢ 10 → Kind b

pub kind : (b : ℕ) → Kind b
kind b = elim (cases_eq b 0) [
  | inl nul ↦ is_nul nul
  | inr some ↦ elim (cases_eq b 10) [ inl end ↦ is_end some end | inr other ↦ is_other some other ]
]

-- a line that ends in the front ends in the whole
has_line-append : (xs ys : List ℕ) → has_line xs ≡ true → has_line (xs ++ ys) ≡ true
has_line-append [] ys is = absurd (cc is)
has_line-append (b ∷ xs) ys is = elim (kind b) [
  | is_nul nul ↦ absurd (cc (line-nul b xs nul, is))
  | is_end some end ↦ line-end b (xs ++ ys) end
  | is_other some other ↦
      line-other b (xs ++ ys) some other ∙ has_line-append xs ys (sym (line-other b xs some other) ∙ is)
]

pub has_line-take : (n : ℕ) (xs : List ℕ) → has_line xs ≡ false → has_line (take n xs) ≡ false
has_line-take zero xs none = refl
has_line-take (suc n) [] none = refl
has_line-take (suc n) (b ∷ xs) none = elim (kind b) [
  | is_nul nul ↦ line-nul b (take n xs) nul
  | is_end some end ↦ absurd (cc (line-end b xs end, none))
  | is_other some other ↦
      line-other b (take n xs) some other ∙ has_line-take n xs (sym (line-other b xs some other) ∙ none)
]

-- what comes after whole lines means what it means alone
pub committed-append : (text rest : List ℕ) → committed text ≡ text → committed (text ++ rest) ≡ text ++ committed rest
committed-append [] rest whole = refl
committed-append (b ∷ text) rest whole = elim (bool_cases (has_line (b ∷ text))) [
  | inl is ↦
      let tail : committed text ≡ text = ap (λ (l : List ℕ). drop 1 l) (sym (line-goes-on b text is) ∙ whole) in
      line-goes-on b (text ++ rest) (has_line-append (b ∷ text) rest is)
      ∙ ap (λ (l : List ℕ). b ∷ l) (committed-append text rest tail)
  | inr none ↦ absurd (cc (sym (ends (b ∷ text) none) ∙ whole))
]

pub has_line-replicate : (n : ℕ) → has_line (replicate n 0) ≡ false
has_line-replicate zero = refl
has_line-replicate (suc n) = line-nul 0 (replicate n 0) refl

-- room after a torn line adds nothing
pub has_line-room : (xs : List ℕ) (n : ℕ) → has_line xs ≡ false → has_line (xs ++ replicate n 0) ≡ false
has_line-room [] zero none = refl
has_line-room [] (suc n) none = line-nul 0 (replicate n 0) refl
has_line-room (b ∷ xs) n none = elim (kind b) [
  | is_nul nul ↦ line-nul b (xs ++ replicate n 0) nul
  | is_end some end ↦ absurd (cc (line-end b xs end, none))
  | is_other some other ↦
      line-other b (xs ++ replicate n 0) some other ∙ has_line-room xs n (sym (line-other b xs some other) ∙ none)
]

-- a file is its whole lines, and an end that means nothing
pub record FileParts (file : List ℕ) : Type 0 where
  pub end : List ℕ
  pub split : file ≡ committed file ++ end
  pub nothing : has_line end ≡ false

pub parts : (file : List ℕ) → FileParts file
parts [] = record { end = []; split = refl; nothing = refl }
parts (b ∷ rest) = elim (bool_cases (has_line (b ∷ rest))) [
  | inl is ↦
      let rest_parts = parts rest in
      record {
        end = rest_parts.end;
        split =
            ap (λ (l : List ℕ). b ∷ l) rest_parts.split
            ∙ ap (λ (l : List ℕ). l ++ rest_parts.end) (sym (line-goes-on b rest is));
        nothing = rest_parts.nothing;
      }
  | inr none ↦ record {
    end = b ∷ rest;
    split = ap (λ (l : List ℕ). l ++ (b ∷ rest)) (sym (ends (b ∷ rest) none));
    nothing = none;
  }
]

line_kept : (b : ℕ) (xs ys : List ℕ) → has_line xs ≡ has_line ys → has_line (b ∷ xs) ≡ has_line (b ∷ ys)
line_kept b xs ys same = elim (kind b) [
  | is_nul nul ↦ line-nul b xs nul ∙ sym (line-nul b ys nul)
  | is_end some end ↦ line-end b xs end ∙ sym (line-end b ys end)
  | is_other some other ↦ line-other b xs some other ∙ same ∙ sym (line-other b ys some other)
]

has_line-committed : (xs : List ℕ) → has_line (committed xs) ≡ has_line xs
has_line-committed [] = refl
has_line-committed (b ∷ xs) = elim (bool_cases (has_line (b ∷ xs))) [
  | inl is ↦ ap has_line (line-goes-on b xs is) ∙ line_kept b (committed xs) xs (has_line-committed xs)
  | inr none ↦ ap has_line (ends (b ∷ xs) none) ∙ sym none
]

pub committed-twice : (xs : List ℕ) → committed (committed xs) ≡ committed xs
committed-twice [] = refl
committed-twice (b ∷ xs) = elim (bool_cases (has_line (b ∷ xs))) [
  | inl is ↦
      let line : has_line (b ∷ committed xs) ≡ true =
      ap has_line (sym (line-goes-on b xs is)) ∙ has_line-committed (b ∷ xs) ∙ is in
      ap committed (line-goes-on b xs is) ∙ line-goes-on b (committed xs) line
      ∙ ap (λ (l : List ℕ). b ∷ l) (committed-twice xs)
      ∙ sym (line-goes-on b xs is)
  | inr none ↦ ap committed (ends (b ∷ xs) none) ∙ sym (ends (b ∷ xs) none)
]

-- whatever comes after whole lines, if it has no line
pub committed-end : (text end : List ℕ) → committed text ≡ text → has_line end ≡ false → committed (text ++ end) ≡ text
committed-end text end whole none =
    committed-append text end whole ∙ ap (λ (l : List ℕ). text ++ l) (ends end none) ∙ append-nil text

-- What a torn write of lines over room leaves: some of the first lines.
pub record Leads (lines torn : List ℕ) : Type 0 where
  pub count : ℕ
  pub line : has_line torn ≡ has_line (take count lines)
  pub same : committed torn ≡ committed (take count lines)

leads-none : (lines torn : List ℕ) → has_line torn ≡ false → Leads lines torn
leads-none lines torn none = record { count = 0; line = none; same = ends torn none }

text_kept : (b : ℕ) (xs ys : List ℕ) → has_line xs ≡ has_line ys → committed xs ≡ committed ys
    → committed (b ∷ xs) ≡ committed (b ∷ ys)
text_kept b xs ys line same = elim (bool_cases (has_line (b ∷ xs))) [
  | inl is ↦
      line-goes-on b xs is ∙ ap (λ (l : List ℕ). b ∷ l) same
      ∙ sym (line-goes-on b ys (sym (line_kept b xs ys line) ∙ is))
  | inr none ↦ ends (b ∷ xs) none ∙ sym (ends (b ∷ ys) (sym (line_kept b xs ys line) ∙ none))
]

leads-more : (b w : ℕ) (lines torn : List ℕ) → b ≡ w → Leads lines torn → Leads (w ∷ lines) (b ∷ torn)
leads-more b w lines torn is rest = record {
  count = suc rest.count;
  line = line_kept b torn (take rest.count lines) rest.line ∙ ap (λ (x : ℕ). has_line (x ∷ take rest.count lines)) is;
  same =
      text_kept b torn (take rest.count lines) rest.line rest.same
      ∙ ap (λ (x : ℕ). committed (x ∷ take rest.count lines)) is;
}

pub leads : (lines torn : List ℕ)
    → ((k : ℕ) → k < length lines → (get_or torn k 0 ≡ 0) ⊎ (get_or torn k 0 ≡ get_or lines k 0))
    → has_line (drop (length lines) torn) ≡ false → Leads lines torn
leads [] torn each room = leads-none [] torn room
leads (w ∷ lines) [] each room = leads-none (w ∷ lines) [] refl
leads (w ∷ lines) (b ∷ torn) each room = elim (each 0 (omega arith)) [
  | inl nul ↦ leads-none (w ∷ lines) (b ∷ torn) (line-nul b torn nul)
  | inr is ↦ leads-more b w lines torn is (leads lines torn (λ k lt. each (suc k) (omega arith)) room)
]
