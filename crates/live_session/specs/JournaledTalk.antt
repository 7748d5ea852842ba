-- What was to be committed, and what a crash leaves of it.
use Rattle.std.specs.Prelude.{◌≡◌, ◌⊎◌, ◌<◌, ◌≤◌, ◌+◌, ◌^◌, ℕ, Bool, true, false, List, [], ◌∷◌, ◌++◌, length}
use Rattle.std.proofs.Common.{inl, inr, refl, sym, ap, subst, append_assoc, arith, length-append, ◌∙◌}
use Rattle.std.proofs.lemmas.List.{append-nil}
use Rattle.journal_file.specs.Committed.{IsBegun, committed}
use Rattle.journal_file.specs.Device.{LeavesOnly}
use Rattle.journal_file.specs.Events.{Event, failures_of}
use Rattle.journal_file.specs.declared.journal.CommittedLines.{CommittedLines}
use Rattle.journal_file.proofs.Chain.{chain}
use Rattle.journal_file.proofs.Lines.{committed-append}

-- the lines of all commits so far that haven't failed
abbrev pub text_kept : List Event → List ℕ
text_kept [] = []
text_kept ((call, at, true, bytes) ∷ older) = text_kept older ++ bytes
text_kept ((call, at, false, bytes) ∷ older) = text_kept older

-- From some moment on, not after the last, a crash leaves these lines, and the first of those that were lost.
abbrev pub HoldsAtLast : {D : Type 0} → (D → ℕ) → (D → ℕ → List ℕ → Type 0) → D → List ℕ → List ℕ → Type 0
HoldsAtLast moment left_since last lines lost =
    (t : ℕ) × (t ≤ moment last) × ((c : List ℕ) → left_since last t c → IsBegun lines lost c)

-- nothing was to be committed
pub record HasNothingToCommit {D : Type 0} (old new : CommittedLines D) (before after : List Event)
    (was_broken is_broken : Bool) : Type 0
  where
    pub journal : new ≡ old
    pub calls : after ≡ before
    pub broken : is_broken ≡ was_broken

-- The file has failed since, or there was no room for these lines.
abbrev pub IsCauseOfFailure : {D : Type 0} → (D → List ℕ) → (D → ℕ) → D → D → List ℕ → Type 0
IsCauseOfFailure seen faults old new lines =
    (faults old < faults new) ⊎ (2 ^ 60 < length (committed (seen old)) + length lines)

-- More lines were committed since, and where a commit has failed, its lines are lost. Where none had failed before, a
-- crash at any moment since leaves what had been committed, and the first of all these lines; and where one has failed
-- now, it at last leaves those that were committed and the first of the lost.
pub record IsLater {D : Type 0} (seen : D → List ℕ) (moment : D → ℕ) (left_since : D → ℕ → List ℕ → Type 0)
    (faults : D → ℕ) (old new : CommittedLines D) (before after : List Event)
    (was_broken is_broken : Bool) : Type 0 where
  pub more : List ℕ
  pub lost : List ℕ
  pub whole : committed more ≡ more
  pub text : text_kept after ≡ text_kept before ++ more
  pub leaves : was_broken ≡ false
      → LeavesOnly moment left_since old.device new.device (IsBegun (committed (seen old.device)) (more ++ lost))
  pub all : is_broken ≡ false → (committed (seen new.device) ≡ committed (seen old.device) ++ more) × (lost ≡ [])
  pub holds : was_broken ≡ false → is_broken ≡ true
      → HoldsAtLast moment left_since new.device (committed (seen old.device) ++ more) lost
  -- after a failure nothing is committed
  pub stays : was_broken ≡ true → (is_broken ≡ true) × (new ≡ old) × (more ≡ []) × (lost ≡ [])
  pub later : failures_of before ≤ failures_of after
  pub failed : was_broken ≡ false → is_broken ≡ true → failures_of before < failures_of after
  pub well : is_broken ≡ false → failures_of after ≡ failures_of before
  -- a commit doesn't give up by itself
  pub risen : faults old.device ≤ faults new.device
  pub cause : was_broken ≡ false → is_broken ≡ true
      → IsCauseOfFailure seen faults old.device new.device (more ++ lost)

abbrev pub IsSameOrLater : {D : Type 0} → (D → List ℕ) → (D → ℕ) → (D → ℕ → List ℕ → Type 0) → (D → ℕ)
    → CommittedLines D
    → CommittedLines D → List Event → List Event → Bool → Bool → Type 0
IsSameOrLater seen moment left_since faults old new before after was_broken is_broken =
    HasNothingToCommit old new before after was_broken is_broken
    ⊎ IsLater seen moment left_since faults old new before after was_broken is_broken

module _ {D : Type 0} (seen : D → List ℕ) (moment : D → ℕ) (left_since : D → ℕ → List ℕ → Type 0) (faults : D → ℕ)
  where
    pub same : (journal : CommittedLines D) (calls : List Event) (is_broken : Bool)
        → IsSameOrLater seen moment left_since faults journal journal calls calls is_broken is_broken
    same journal calls is_broken = inl (record { journal = refl; calls = refl; broken = refl })

    -- of lines that came after others
    later-cause : (a b c : D) (first second : List ℕ) → committed (seen b) ≡ committed (seen a) ++ first
        → faults a ≤ faults b → IsCauseOfFailure seen faults b c second
        → IsCauseOfFailure seen faults a c (first ++ second)
    later-cause a b c first second behind risen (inl failed) = inl (omega (arith, risen, failed))
    later-cause a b c first second behind risen (inr full) =
        inr (omega (
          arith,
          full,
          ap length behind,
          length-append
              (committed (seen a)) first,
          length-append first second,
        ))

    on-failed : (a b c : CommittedLines D) (ea eb ec : List Event) (p q r : Bool) → q ≡ true
        → IsLater seen moment left_since faults a b ea eb p q → IsLater seen moment left_since faults b c eb ec q r
        → IsLater seen moment left_since faults a c ea ec p r
    on-failed a b c ea eb ec p q r broken first second =
        let stuck = second.stays broken in
        let none : first.more ++ second.more ≡ first.more =
        ap (λ (l : List ℕ). first.more ++ l) stuck.2 ∙ append-nil first.more in
        record {
          more = first.more;
          lost = first.lost;
          whole = first.whole;
          text =
              second.text ∙ ap (λ (l : List ℕ). l ++ second.more) first.text
              ∙ append_assoc (text_kept ea) first.more second.more ∙ ap (λ (l : List ℕ). text_kept ea ++ l) none;
          leaves =
              λ well. subst (λ (j : CommittedLines D). LeavesOnly moment left_since a.device j.device
              (IsBegun (committed (seen a.device)) (first.more ++ first.lost))) (sym stuck.1) (first.leaves well);
          all = λ well. absurd (cc (stuck.0, well));
          holds =
              λ was is. subst (λ (j : CommittedLines D). HoldsAtLast moment left_since j.device
              (committed (seen a.device) ++ first.more) first.lost) (sym stuck.1) (first.holds was broken);
          stays = λ was. let before = first.stays was in (stuck.0, stuck.1 ∙ before.1, before.2, before.3);
          later = omega (arith, first.later, second.later);
          failed = λ was is. omega (arith, first.failed was broken, second.later);
          well = λ is. absurd (cc (stuck.0, is));
          risen = omega (arith, first.risen, second.risen);
          cause =
              λ was is. subst (λ (j : CommittedLines D). IsCauseOfFailure seen faults a.device j.device
              (first.more ++ first.lost)) (sym stuck.1) (first.cause was broken);
        }

    on-well : (a b c : CommittedLines D) (ea eb ec : List Event) (p q r : Bool) → q ≡ false
        → IsLater seen moment left_since faults a b ea eb p q → IsLater seen moment left_since faults b c eb ec q r
        → IsLater seen moment left_since faults a c ea ec p r
    on-well a b c ea eb ec p q r well first second =
        let (kept, none) = first.all well in
        let both : first.more ++ (second.more ++ second.lost) ≡ (first.more ++ second.more) ++ second.lost =
        sym (append_assoc first.more second.more second.lost) in
        let all : first.more ++ first.lost ≡ first.more =
        ap (λ (l : List ℕ). first.more ++ l) none ∙ append-nil first.more in
        let kept_both : committed (seen b.device) ++ second.more
        ≡ committed (seen a.device) ++ (first.more ++ second.more) =
        ap (λ (l : List ℕ). l ++ second.more) kept
        ∙ append_assoc (committed (seen a.device)) first.more second.more in record {
          more = first.more ++ second.more;
          lost = second.lost;
          whole =
              committed-append first.more second.more first.whole ∙ ap (λ (l : List ℕ). first.more ++ l) second.whole;
          text =
              second.text ∙ ap (λ (l : List ℕ). l ++ second.more) first.text
              ∙ append_assoc (text_kept ea) first.more second.more;
          leaves =
              λ was. subst (λ (l : List ℕ). LeavesOnly moment left_since a.device c.device
              (IsBegun (committed (seen a.device)) l)) both
              (chain moment left_since a.device b.device c.device (committed (seen a.device)) first.more
              (second.more ++ second.lost) (committed (seen b.device)) kept first.whole
              (subst (λ (l : List ℕ). LeavesOnly moment left_since a.device b.device
              (IsBegun (committed (seen a.device)) l)) all (first.leaves was))
              (second.leaves well));
          all = λ is. let last = second.all is in (last.0 ∙ kept_both, last.1);
          holds =
              λ was is. subst (λ (l : List ℕ). HoldsAtLast moment left_since c.device l second.lost) kept_both
              (second.holds well is);
          stays = λ was. absurd (cc ((first.stays was).0, well));
          later = omega (arith, first.later, second.later);
          failed = λ was is. omega (arith, first.later, second.failed well is);
          well = λ is. second.well is ∙ first.well well;
          risen = omega (arith, first.risen, second.risen);
          cause =
              λ was is. subst (IsCauseOfFailure seen faults a.device c.device) both
              (later-cause a.device b.device c.device first.more (second.more ++ second.lost) kept first.risen
              (second.cause well is));
        }

    on-later : (a b c : CommittedLines D) (ea eb ec : List Event) (p q r : Bool)
        → IsLater seen moment left_since faults a b ea eb p q → IsLater seen moment left_since faults b c eb ec q r
        → IsLater seen moment left_since faults a c ea ec p r
    on-later a b c ea eb ec p true r = on-failed a b c ea eb ec p true r refl
    on-later a b c ea eb ec p false r = on-well a b c ea eb ec p false r refl

    pub on : (a b c : CommittedLines D) (ea eb ec : List Event) (p q r : Bool)
        → IsSameOrLater seen moment left_since faults a b ea eb p q
        → IsSameOrLater seen moment left_since faults b c eb ec q r
        → IsSameOrLater seen moment left_since faults a c ea ec p r
    on a b c ea eb ec p q r (inl first) (inl second) = inl (record {
      journal = second.journal ∙ first.journal;
      calls = second.calls ∙ first.calls;
      broken = second.broken ∙ first.broken;
    })
    on a b c ea eb ec p q r (inl first) (inr second) =
        inr (rw (← first.journal, ← first.calls, ← first.broken) second)
    on a b c ea eb ec p q r (inr first) (inl second) = inr (rw (second.journal, second.calls, second.broken) first)
    on a b c ea eb ec p q r (inr first) (inr second) = inr (on-later a b c ea eb ec p q r first second)
