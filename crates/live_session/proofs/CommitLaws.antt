-- A commit.
use Rattle.std.proofs.Common.{◌≡◌, ◌≤◌, ◌<◌, ◌+◌, ◌^◌, ◌++◌, ℕ, Bool, true, false, List, [], ◌∷◌, length, inl, inr}
use Rattle.std.proofs.Common.{refl, ◌∙◌, Result, Err, ap, arith, sym, subst}
use Rattle.std.proofs.lemmas.List.{append-nil}
use Rattle.auction_terms.specs.declared.Entry.{Entry}
use Rattle.journal.specs.KeptLines.{HasEntryLines}
use Rattle.journal_file.specs.Committed.{HasShortLines, IsBegun, committed}
use Rattle.journal_file.specs.Device.{LeavesOnly}
use Rattle.journal_file.specs.Events.{Event, failures_of}
use Rattle.journal_file.specs.declared.device.DeviceError.{DeviceError}
use Rattle.journal_file.specs.declared.device.DeviceError.TheVariants as device_error
use Rattle.journal_file.specs.declared.journal.CommittedLines.{CommittedLines}
use Rattle.journal_file.proofs.Pieces.{whole-lines}
use Rattle.live_session.specs.JournaledTalk.{HoldsAtLast, IsCauseOfFailure, IsLater, text_kept}
use Rattle.live_session.proofs.PrintableLineLaws.{calls-text, each-in-line, each-short, insides}

-- the lines of entries are whole, and one write can have each
pub entry-lines-short : (text : List ℕ) → ((kept : List Entry) × HasEntryLines text kept) → HasShortLines text
entry-lines-short text (kept, lines) = record {
  lines = insides kept;
  is = lines.0 ∙ calls-text 0 kept;
  inside = each-in-line kept lines.1;
  short = each-short kept lines.1;
}

pub entry-lines-whole : (text : List ℕ) → ((kept : List Entry) × HasEntryLines text kept) → committed text ≡ text
entry-lines-whole text kept = whole-lines text (entry-lines-short text kept)

abbrev pub as-failure : DeviceError → Result (Unit {0}) DeviceError
as-failure error = Err error

module _ {D : Type 0} (seen : D → List ℕ) (moment : D → ℕ) (left_since : D → ℕ → List ℕ → Type 0) (faults : D → ℕ)
  where
    -- it isn't tried after one that failed
    pub refused : (journal : CommittedLines D) (before after : List Event) (is_broken : Bool) → is_broken ≡ true
        → after ≡ (0, 0, false, []) ∷ before
        → IsLater seen moment left_since faults journal journal before after is_broken is_broken
    refused journal before after is_broken broken note = record {
      more = [];
      lost = [];
      whole = refl;
      text = ap text_kept note ∙ sym (append-nil (text_kept before));
      leaves = λ well. absurd (cc (broken, well));
      all = λ well. absurd (cc (broken, well));
      holds = λ well is. absurd (cc (broken, well));
      stays = λ is. (is, refl, refl, refl);
      later = omega (arith, ap failures_of note);
      failed = λ well is. absurd (cc (broken, well));
      well = λ well. absurd (cc (broken, well));
      risen = omega arith;
      cause = λ well is. absurd (cc (broken, well));
    }

    module _ (old new : CommittedLines D) (before after : List Event) (was_broken : Bool) (lines : List ℕ)
        (was_well : was_broken ≡ false) (whole : committed lines ≡ lines)
        (leaves : LeavesOnly moment left_since old.device new.device (IsBegun (committed (seen old.device)) lines))
        (risen : faults old.device ≤ faults new.device) where
      pub made : after ≡ (0, 0, true, lines) ∷ before
          → committed (seen new.device) ≡ committed (seen old.device) ++ lines
          → IsLater seen moment left_since faults old new before after was_broken false
      made note all = record {
        more = lines;
        lost = [];
        whole = whole;
        text = ap text_kept note;
        leaves =
            λ well. subst (λ (l : List ℕ). LeavesOnly moment left_since old.device new.device
            (IsBegun (committed (seen old.device)) l)) (sym (append-nil lines)) leaves;
        all = λ well. (all, refl);
        holds = λ well broken. absurd (cc broken);
        stays = λ broken. absurd (cc (was_well, broken));
        later = omega (arith, ap failures_of note);
        failed = λ well broken. absurd (cc broken);
        well = λ well. ap failures_of note;
        risen = risen;
        cause = λ well broken. absurd (cc broken);
      }

      pub failed : after ≡ (0, 0, false, lines) ∷ before
          → IsCauseOfFailure seen faults old.device new.device lines
          → IsLater seen moment left_since faults old new before after was_broken true
      failed note cause = record {
        more = [];
        lost = lines;
        whole = refl;
        text = ap text_kept note ∙ sym (append-nil (text_kept before));
        leaves = λ well. leaves;
        all = λ well. absurd (cc well);
        holds =
            λ well broken. subst (λ (l : List ℕ). HoldsAtLast moment left_since new.device l lines)
            (sym (append-nil (committed (seen old.device)))) (moment old.device, leaves.later, leaves.each);
        stays = λ broken. absurd (cc (was_well, broken));
        later = omega (arith, ap failures_of note);
        failed = λ well broken. omega (arith, ap failures_of note);
        well = λ well. absurd (cc well);
        risen = risen;
        cause = λ well broken. cause;
      }

    -- by the device's error
    pub fault-cause : (old new : CommittedLines D) (lines : List ℕ) (error : DeviceError)
        → old.end ≡ length (committed (seen old.device))
        → (as-failure error ≡ as-failure device_error.Failed → faults old.device < faults new.device)
        → (as-failure error ≡ as-failure device_error.Changed → faults old.device < faults new.device)
        → (as-failure error ≡ as-failure device_error.Full → 2 ^ 60 < old.end + length lines)
        → IsCauseOfFailure seen faults old.device new.device lines
    fault-cause old new lines device_error.Failed end failed changed full = inl (failed refl)
    fault-cause old new lines device_error.Changed end failed changed full = inl (changed refl)
    fault-cause old new lines device_error.Full end failed changed full = inr (omega (arith, end, full refl))
