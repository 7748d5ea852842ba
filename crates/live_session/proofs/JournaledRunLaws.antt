-- A session whose entries are kept, from what any session does.
use Rattle.std.proofs.Common.{◌≡◌, ◌<◌, inl, inr, ℕ, Bool, false, List, [], ◌++◌, Option, Result, Ok, Err}
use Rattle.std.proofs.Common.{refl, sym, ap, ap₂, subst, arith, ◌∙◌}
use Rattle.std.proofs.lemmas.List.{append-nil}
use Rattle.auction_terms.specs.Auxiliary.RunningAuction.{RunningAuction}
use Rattle.byte_streams.specs.declared.sink.Sink as sink
use Rattle.byte_streams.specs.declared.source.Source as source
use Rattle.journal_file.specs.Committed.{IsBegun, committed}
use Rattle.journal_file.specs.Device.{LeavesOnly}
use Rattle.journal_file.specs.Events.{Event, failures_of}
use Rattle.journal_file.specs.Settled.{IsSettled}
use Rattle.journal_file.specs.declared.journal.CommittedLines.{CommittedLines}
use Rattle.journal_file.proofs.Lines.{bool_cases}
use Rattle.journal_file.proofs.Moments.{started}
use Rattle.journal_file.proofs.TornEnds.{torn-end-room}
use Rattle.live_session.specs.Answered.{Answered}
use Rattle.live_session.specs.Talk.{HasBrokenOff, EndsSession, HasAnswered, HasRead}
use Rattle.live_session.specs.declared.conversation.Conversation.{Ghosts}
use Rattle.live_session.specs.declared.fault.Ending.{Ending}
use Rattle.live_session.specs.declared.fault.LiveFault.{LiveFault}
use Rattle.live_session.specs.declared.fault.LiveFault.TheVariants as fault
use Rattle.live_session.specs.declared.terms.SessionTerms.{SessionTerms}
use Rattle.live_session.specs.JournaledTalk.{HoldsAtLast, IsCauseOfFailure, IsLater, IsSameOrLater, text_kept}
use Rattle.live_session.specs.JournaledRun.{SessionEnds, RunsJournaled, ends_at, kept_ends}

-- the device stays the one that it was
pub same-device : {C : Type 0} (c : Ghosts C) (terms : SessionTerms) (start : RunningAuction) (old new : C)
    (ended : Result Ending LiveFault) → EndsSession c terms start old new ended → c.Becomes old new
same-device c terms start old new (Ok ending) h = h.device.same
same-device c terms start old new (Err fault.ReadFailed) h = h.device.same
same-device c terms start old new (Err fault.WriteFailed) h = h.0.device.same
same-device c terms start old new (Err fault.CommitFailed) h = h.0.device.same
same-device c terms start old new (Err fault.NoMemory) h = h.0.device.same

-- ---- by the ends alone

module _ {C : Type 0} (c : Ghosts C) where
  abbrev pub seen_as : C → SessionEnds
  seen_as talk = record {
    left = c.left talk;
    written = c.written talk;
    committed = c.committed talk;
    read_failures = c.read_failures talk;
    write_failures = c.write_failures talk;
    commit_failures = c.commit_failures talk;
  }

  as-read : (old new : C) (heard : List ℕ) → HasRead c old new heard
      → HasRead kept_ends (seen_as old) (seen_as new) heard
  as-read old new heard h = record { same = tt; read = h.read }

  as-answered : (old new : C) (answers : Answered) → HasAnswered c old new answers
      → HasAnswered kept_ends (seen_as old) (seen_as new) answers
  as-answered old new answers h =
      record { text = h.text; entries = h.entries; writes = h.writes; commits = h.commits }

  as-broken-off : (terms : SessionTerms) (start : RunningAuction) (old new : C) → HasBrokenOff c terms start old new
      → HasBrokenOff kept_ends terms start (seen_as old) (seen_as new)
  as-broken-off terms start old new h = record {
    before = h.before;
    last = h.last;
    short = h.short;
    device = as-read old new (h.before ++ h.last) h.device;
    text = h.text;
    entries = h.entries;
    answers = h.answers;
    answers_are = h.answers_are;
    committed_first = record { text = h.committed_first.text; entries = h.committed_first.entries };
    reads = h.reads;
  }

  pub as-ends : (terms : SessionTerms) (start : RunningAuction) (old new : C) (ended : Result Ending LiveFault)
      → EndsSession c terms start old new ended
      → EndsSession kept_ends terms start (seen_as old) (seen_as new) ended
  as-ends terms start old new (Ok ending) h = record {
    heard = h.heard;
    device = as-read old new h.heard h.device;
    all = h.all;
    answered = as-answered old new _ h.answered;
    reads = h.reads;
    ending_is = h.ending_is;
  }
  as-ends terms start old new (Err fault.ReadFailed) h = record {
    heard = h.heard;
    device = as-read old new h.heard h.device;
    answered = as-answered old new _ h.answered;
    reads = h.reads;
  }
  as-ends terms start old new (Err fault.WriteFailed) h = (as-broken-off terms start old new h.0, h.1, h.2)
  as-ends terms start old new (Err fault.CommitFailed) h = (as-broken-off terms start old new h.0, h.1, h.2)
  as-ends terms start old new (Err fault.NoMemory) h = (as-broken-off terms start old new h.0, h.1, h.2)

-- ---- the journal

module _ {D : Type 0} (seen : D → List ℕ) (may_leave : D → List ℕ → Type 0) (moment : D → ℕ)
    (left_since : D → ℕ → List ℕ → Type 0) (faults : D → ℕ) (old new : CommittedLines D) (before after : List Event)
    (is_broken : Bool) where
  -- no commit has failed
  pub still-well : IsSameOrLater seen moment left_since faults old new before after false is_broken
      → failures_of after ≡ failures_of before → is_broken ≡ false
  still-well (inl same) none = same.broken
  still-well (inr later) none = elim (bool_cases is_broken) [
    | inl broken ↦ absurd (omega (arith, none, later.failed refl broken))
    | inr well ↦ well
  ]

  -- the lines since nothing was committed
  text-since : before ≡ [] → (later : IsLater seen moment left_since faults old new before after false is_broken)
      → text_kept after ≡ later.more
  text-since none later = later.text ∙ ap (λ (e : List Event). text_kept e ++ later.more) none

  -- the lines of a commit that failed
  abbrev pub lost-of : IsSameOrLater seen moment left_since faults old new before after false is_broken → List ℕ
  lost-of (inl same) = []
  lost-of (inr later) = later.lost

  pub leaves : ((d : D) (c : List ℕ) → left_since d (moment d) c → may_leave d c) → IsSettled seen may_leave old
      → before ≡ [] → (later : IsSameOrLater seen moment left_since faults old new before after false is_broken)
      → LeavesOnly moment left_since old.device new.device
      (IsBegun (committed (seen old.device)) (text_kept after ++ lost-of later))
  leaves only_now settled none (inl same) =
      let text : text_kept after ++ [] ≡ [] =
      append-nil (text_kept after) ∙ ap text_kept (same.calls ∙ none) in
      subst (λ (j : CommittedLines D). LeavesOnly moment left_since old.device j.device
      (IsBegun (committed (seen old.device)) (text_kept after ++ []))) (sym same.journal)
      (subst (λ (t : List ℕ). LeavesOnly moment left_since old.device old.device
      (IsBegun (committed (seen old.device)) t)) (sym text)
      (started moment left_since old.device (IsBegun (committed (seen old.device)) []) (λ c left.
      subst (IsBegun (committed (seen old.device)) []) (sym (settled.durable c (only_now old.device c left))) (
        0,
        (
          sym (append-nil (committed (seen old.device))),
          torn-end-room (seen old.device) (committed (seen old.device)) old.room settled.file refl,
        ),
      ))))
  leaves only_now settled none (inr later) =
      subst (λ (t : List ℕ). LeavesOnly moment left_since old.device new.device
      (IsBegun (committed (seen old.device)) (t ++ later.lost))) (sym (text-since none later)) (later.leaves refl)

  pub all-kept : before ≡ [] → IsSameOrLater seen moment left_since faults old new before after false is_broken
      → is_broken ≡ false → committed (seen new.device) ≡ committed (seen old.device) ++ text_kept after
  all-kept none (inl same) well =
      rw (same.journal, same.calls, none) (sym (append-nil (committed (seen old.device))))
  all-kept none (inr later) well = rw (later.text, none) (later.all well).0

  -- one has
  pub caused : before ≡ [] → (later : IsSameOrLater seen moment left_since faults old new before after false is_broken)
      → 0 < failures_of after
      → IsCauseOfFailure seen faults old.device new.device (text_kept after ++ lost-of later)
  caused none (inl same) some = absurd (omega (arith, ap failures_of same.calls, ap failures_of none, some))
  caused none (inr later) some = elim (bool_cases is_broken) [
    | inl broken ↦ subst (λ (t : List ℕ). IsCauseOfFailure seen faults old.device new.device (t ++ later.lost))
        (sym (text-since none later)) (later.cause refl broken)
    | inr well ↦ absurd (omega (arith, later.well well, ap failures_of none, some))
  ]

  pub holds : before ≡ [] → (later : IsSameOrLater seen moment left_since faults old new before after false is_broken)
      → 0 < failures_of after
      → HoldsAtLast moment left_since new.device (committed (seen old.device) ++ text_kept after) (lost-of later)
  holds none (inl same) some = absurd (omega (arith, ap failures_of same.calls, ap failures_of none, some))
  holds none (inr later) some = elim (bool_cases is_broken) [
    | inl broken ↦ subst (λ (t : List ℕ). HoldsAtLast moment left_since new.device
        (committed (seen old.device) ++ t) later.lost) (sym (text-since none later)) (later.holds refl broken)
    | inr well ↦ absurd (omega (arith, later.well well, ap failures_of none, some))
  ]

runs-kept : {C D : Type 0} (c : Ghosts C) (seen : D → List ℕ) (may_leave : D → List ℕ → Type 0) (moment : D → ℕ)
    (left_since : D → ℕ → List ℕ → Type 0) (faults : D → ℕ)
    → ((d : D) (f : List ℕ) → left_since d (moment d) f → may_leave d f)
    → (terms : SessionTerms) (start : RunningAuction) (talk last : C) (result : Result Ending LiveFault)
    → (old new : CommittedLines D) (before after : List Event) (is_broken : Bool)
    → (begun ended : List ℕ → ℕ → SessionEnds)
    → IsSettled seen may_leave old → before ≡ []
    → EndsSession c terms start talk last result
    → IsSameOrLater seen moment left_since faults old new before after false is_broken
    → (is_broken ≡ false → IsSettled seen may_leave new)
    → seen_as c talk ≡ begun [] 0 → seen_as c last ≡ ended (text_kept after) (failures_of after)
    → RunsJournaled seen may_leave moment left_since faults terms start old new begun ended result
runs-kept c seen may_leave moment left_since faults only_now terms start talk last result old new before after is_broken
    begun
    ended settled none ran later steady first at_last = record {
      entries = text_kept after;
      lost = lost-of seen may_leave moment left_since faults old new before after is_broken later;
      failures = failures_of after;
      session =
          subst (λ (e : SessionEnds). EndsSession kept_ends terms start e (ended (text_kept after) (failures_of after))
          result) first
          (subst (λ (e : SessionEnds). EndsSession kept_ends terms start (seen_as c talk) e result) at_last
          (as-ends c terms start talk last result ran));
      leaves =
          leaves seen may_leave moment left_since faults old new before after is_broken only_now settled none later;
      held = holds seen may_leave moment left_since faults old new before after is_broken none later;
      failed = caused seen may_leave moment left_since faults old new before after is_broken none later;
      all =
          λ zero_failures. let well : is_broken ≡ false =
          still-well seen may_leave moment left_since faults old new before after is_broken later
          (zero_failures ∙ sym (ap failures_of none)) in (
            steady well,
            all-kept seen may_leave moment left_since faults old new before after is_broken none later well,
          );
    }

-- by the reader and the writer that a session was given, and what they are at last
module _ {R O : Type 0} (reads : source.Ghosts R) (writes : sink.Ghosts O) where
  abbrev pub ends_of_both : R → O → List ℕ → ℕ → SessionEnds
  ends_of_both input output =
      ends_at (reads.left input) (writes.written output) (reads.failures input) (writes.failures output)

pub kept-by : {C D R O : Type 0} (c : Ghosts C) (seen : D → List ℕ) (may_leave : D → List ℕ → Type 0)
    (moment : D → ℕ) (left_since : D → ℕ → List ℕ → Type 0) (faults : D → ℕ)
    → ((d : D) (f : List ℕ) → left_since d (moment d) f → may_leave d f)
    → (terms : SessionTerms) (start : RunningAuction) (talk last : C) (result : Result Ending LiveFault)
    → (old new first_journal last_journal : CommittedLines D) (before after : List Event) (was_broken is_broken : Bool)
    → (reads : source.Ghosts R) (writes : sink.Ghosts O) (input new_input last_input : R)
    (output new_output last_output : O)
    → IsSettled seen may_leave old → before ≡ [] → was_broken ≡ false → first_journal ≡ old → new ≡ last_journal
    → EndsSession c terms start talk last result
    → IsSameOrLater seen moment left_since faults first_journal last_journal before after was_broken is_broken
    → (is_broken ≡ false → IsSettled seen may_leave last_journal)
    → seen_as c talk ≡ ends_of_both reads writes input output [] 0
    → seen_as c last ≡ ends_of_both reads writes last_input last_output (text_kept after) (failures_of after)
    → new_input ≡ last_input → new_output ≡ last_output
    → RunsJournaled seen may_leave moment left_since faults terms start old new (ends_of_both reads writes input output)
    (ends_of_both reads writes new_input new_output) result
kept-by {D = D} {R = R} {O = O} c seen may_leave moment left_since faults only_now terms start talk last result old new
    first_journal last_journal before after was_broken is_broken reads writes input new_input last_input output
    new_output last_output settled none well first_is new_is ran later steady first at_last input_is output_is =
    runs-kept c seen may_leave moment left_since faults only_now terms start talk last result old new before after
    is_broken
    (ends_of_both reads writes input output) (ends_of_both reads writes new_input new_output) settled none ran
    (subst (λ (b : Bool). IsSameOrLater seen moment left_since faults old new before after b is_broken) well
    (subst (λ (j : CommittedLines D).
    IsSameOrLater seen moment left_since faults j new before after was_broken is_broken) first_is
    (subst (λ (j : CommittedLines D).
    IsSameOrLater seen moment left_since faults first_journal j before after was_broken is_broken)
    (sym new_is) later)))
    (λ is_well. subst (λ (j : CommittedLines D). IsSettled seen may_leave j) (sym new_is) (steady is_well))
    first
    (at_last ∙ sym (ap₂ (λ (r : R) (w : O). ends_of_both reads writes r w (text_kept after) (failures_of after))
    input_is output_is))
