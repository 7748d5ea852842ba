-- The exchange that adds a call keeps the rule.
use Rattle.std.proofs.Common.{◌≡◌, ℕ, ◌+◌, ◌==◌, Bool, true, false, List, [], ◌∷◌, ◌++◌, length, refl, ap, sym, arith}
use Rattle.std.proofs.Common.{inl, length-append, None}
use Rattle.std.proofs.lemmas.List.{append-nil}
use Rattle.std.proofs.lemmas.Bool.Decides.{nat_tests}
use Rattle.std.proofs.lemmas.Grind.{common_steps}
use mathlib.Core.List.{IsPrefix}
use prog.Atomic.{either}
use Rattle.logbook.specs.Pages.{keeps, no_nib, step, Moves, Goes}
use Rattle.auction_terms.specs.declared.Call.{Call}
use Rattle.board_terms.specs.Stories.{IsStory, AddsCall}
use Rattle.board_terms.proofs.PrefixLaws.{prefix_whole}

abbrev pub shown : List Call → List Call
shown log = []

abbrev pub moved : List Call → List Call → ℕ → Type 0
moved xs ys n = Unit {0}

pub AddsCall-goes : (log v : List Call) (e : Call) (old : ℕ) → length v ≡ old → IsPrefix v log
    → (b : Bool) → (length log == old) ≡ b
    → Goes IsStory shown moved 0 (v, (no_nib, None)) (λ n. either (n == old) (old + 1) n)
    (AddsCall (step 0 old (old + 1) e) (v, (no_nib, None))) ((length log, true) ∷ (0, true) ∷ []) log
AddsCall-goes log v e old len pre true is =
    let here : length log ≡ old = grind (arith, nat_tests) in
    let same : v ≡ log = prefix_whole v log pre (omega arith) in
    let n : either (length log == old) (old + 1) (length log) ≡ length (log ++ e ∷ []) =
    rw is (omega (arith, length-append log (e ∷ []))) in (
      keeps,
      e ∷ [],
      None,
      tt,
      ap (λ (k : ℕ). (k, true) ∷ (0, true) ∷ []) n,
      inl (refl, refl),
      rw is (ap (λ w. w ++ e ∷ []) (sym same)),
    )
AddsCall-goes log v e old len pre false is =
    let all : log ++ [] ≡ log = append-nil log in
    let n : either (length log == old) (old + 1) (length log) ≡ length (log ++ []) = rw is (ap length (sym all)) in (
      keeps,
      [],
      None,
      tt,
      ap (λ (k : ℕ). (k, true) ∷ (0, true) ∷ []) n,
      inl (refl, refl),
      rw is (ap length all),
    )

-- whatever the book is, the exchange adds the call to all that was seen, or finds that the story is longer
pub AddsCall-moves : (v : List Call) (e : Call) (old : ℕ) → length v ≡ old
    → Moves IsStory shown moved 0 (v, (no_nib, None)) (λ n. either (n == old) (old + 1) n)
    (AddsCall (step 0 old (old + 1) e) (v, (no_nib, None)))
AddsCall-moves v e old len cs log kept pre away =
    grind (arith, common_steps, (AddsCall-goes log v e old len pre (length log == old) refl))
