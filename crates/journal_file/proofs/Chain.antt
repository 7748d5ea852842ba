-- One commit after others.
use Rattle.std.proofs.Common.{◌≡◌, ℕ, zero, suc, ◌+◌, List, [], ◌∷◌, ◌++◌, length, take, refl, sym, ◌∙◌, ap}
use Rattle.std.proofs.Common.{append_assoc, arith}
use Rattle.std.proofs.lemmas.List.{take_all}
use Rattle.std.proofs.Math.Seq.{take-append-add}
use Rattle.journal_file.specs.Device.{LeavesOnly}
use Rattle.journal_file.specs.Committed.{committed, IsBegun, Means}
use Rattle.journal_file.proofs.Lines.{committed-append}
use Rattle.journal_file.proofs.Moments.{then}

-- a beginning of the first is one of both
begins : (k : ℕ) (first second : List ℕ) → (n : ℕ) × (take n (first ++ second) ≡ take k first)
begins zero first second = (0, refl)
begins (suc k) [] second = (0, refl)
begins (suc k) (x ∷ first) second = let rest = begins k first second in (suc rest.0, ap (λ (l : List ℕ). x ∷ l) rest.1)

pub begun_first : (text first second c : List ℕ) → IsBegun text first c → IsBegun text (first ++ second) c
begun_first text first second c begun =
    let some = begins begun.0 first second in
    (some.0, (begun.1.0 ∙ ap (λ (l : List ℕ). text ++ committed l) (sym some.1), begun.1.1))

pub begun_both : (text first second c file : List ℕ) → file ≡ text ++ first → committed first ≡ first
    → IsBegun file second c → IsBegun text (first ++ second) c
begun_both text first second c file is whole begun = (
  length first + begun.0,
  (
    begun.1.0 ∙ ap (λ (l : List ℕ). l ++ committed (take begun.0 second)) is
        ∙ append_assoc text first (committed (take begun.0 second))
        ∙ ap (λ (l : List ℕ). text ++ l) (sym (committed-append first (take begun.0 second) whole))
        ∙ ap (λ (l : List ℕ). text ++ committed l) (sym (take-append-add first second begun.0)),
    begun.1.1,
  ),
)

pub chain : {D : Type 0} (moment : D → ℕ) (left_since : D → ℕ → List ℕ → Type 0) (base old new : D)
    (text first second file : List ℕ)
    → file ≡ text ++ first → committed first ≡ first
    → LeavesOnly moment left_since base old (IsBegun text first)
    → LeavesOnly moment left_since old new (IsBegun file second)
    → LeavesOnly moment left_since base new (IsBegun text (first ++ second))
chain moment left_since base old new text first second file is whole before now =
    then moment left_since base old new (IsBegun text first) (IsBegun file second) (IsBegun text (first ++ second))
    before now
    (λ c. begun_first text first second c) (λ c. begun_both text first second c file is whole)

-- a run that keeps the lines, after others
pub same-lines : (text before file c : List ℕ) → file ≡ text ++ before → committed before ≡ before → Means file c
    → IsBegun text before c
same-lines text before file c is whole same = (
  length before,
  (
    same.0 ∙ is
        ∙ ap (λ (l : List ℕ). text ++ l)
        (sym whole ∙ ap committed (sym (take_all (length before) before (omega arith)))),
    same.1,
  ),
)

pub chain-same : {D : Type 0} (moment : D → ℕ) (left_since : D → ℕ → List ℕ → Type 0) (base old new : D)
    (text before file : List ℕ) → file ≡ text ++ before → committed before ≡ before
    → LeavesOnly moment left_since base old (IsBegun text before)
    → LeavesOnly moment left_since old new (Means file)
    → LeavesOnly moment left_since base new (IsBegun text before)
chain-same moment left_since base old new text before file is whole earlier now =
    then moment left_since base old new (IsBegun text before) (Means file) (IsBegun text before) earlier now
    (λ c begun. begun) (λ c same. same-lines text before file c is whole same)
