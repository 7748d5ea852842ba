-- Which journals are audited legal.
use Rattle.std.proofs.Common.{◌≡◌, ◌<◌, ◌⊎◌, inl, inr, ◌∷◌, ◌∙◌, [], ℕ, suc, List, Bool, Some, None, true, false, refl}
use Rattle.std.proofs.Common.{sym, ap, arith, length, map, subst}
use Rattle.std.specs.List.{AllByRecursion}
use Rattle.std.specs.Str.{bytes_eq}
use Rattle.std.proofs.lemmas.Slice.Eq.{bytes_eq-Decides}
use Rattle.auction_terms.specs.declared.Config.{Config}
use Rattle.auction_terms.specs.declared.Entry.{Entry}
use Rattle.auction_terms.specs.declared.Reply.{Reply}
use Rattle.auction_terms.specs.Day.{State, opening_state, replay, replies_from, step}
use Rattle.printed_lines.specs.ReplyWords.{reply_text}
use Rattle.journal.specs.EntryRecord.{call_part}
use Rattle.journal.specs.JournalFile.{recorded_day}
use Rattle.journal.specs.JournalText.{recorded_call_by}
use Rattle.journal.proofs.JournalSizeLaws.{reads-history}
use Rattle.journal.proofs.ReplayTextLaws.{legal-has-replay-texts, replay-legal, texts-recorded}
use Rattle.journal.proofs.ReplyTextLaws.{reply-some}
use Rattle.day_audit.specs.declared.counts.Counts.{Counts}
use Rattle.day_audit.specs.declared.counts.Finding.{Finding}
use Rattle.day_audit.specs.declared.counts.Finding.TheVariants.{Lawful, Silent, Unlawful}
use Rattle.day_road.specs.ReplyPairs.{ReplyPair, pairs, pairs_in}
use Rattle.day_audit.specs.AuditCounts.{counts_with, counts_with_all, finding, finding_of, no_counts}
use Rattle.day_audit.specs.AuditPromises.{IsSilentOrLawful, LegalExactly, LegalIsLawful, PrintedIsLegal}

-- ---- the first unlawful entry stays the first

counts_with-first : (c : Counts) (f : Finding) (p : ℕ) → c.first_unlawful ≡ Some p
    → (counts_with c f).first_unlawful ≡ Some p
counts_with-first c Silent p e = e
counts_with-first c Lawful p e = e
counts_with-first c Unlawful p e = rw e refl

first-stays : (c : Counts) (rest : List ReplyPair) (p : ℕ) → c.first_unlawful ≡ Some p
    → (counts_with_all c rest).first_unlawful ≡ Some p
first-stays c [] p e = e
first-stays c (a ∷ rest) p e =
    first-stays (counts_with c (finding_of a)) rest p (counts_with-first c (finding_of a) p e)

-- ---- what is found of an answer

abbrev Agrees : Finding → Type 0
Agrees Silent = Unit {0}
Agrees Lawful = Unit {0}
Agrees Unlawful = ⊥

answered-text : (recorded lawful : List ℕ) → Agrees (finding recorded lawful) → (recorded ≡ []) ⊎ (recorded ≡ lawful)
answered-text [] lawful h = inl refl
answered-text (b ∷ bs) lawful h = text-cases (bytes_eq (b ∷ bs) lawful) refl h
  where
    text-cases : (t : Bool) → bytes_eq (b ∷ bs) lawful ≡ t → Agrees (finding (b ∷ bs) lawful)
        → (b ∷ bs ≡ []) ⊎ (b ∷ bs ≡ lawful)
    text-cases true e k = inr ((bytes_eq-Decides (b ∷ bs) lawful).0 e)
    text-cases false e k = absurd (rw e at k)

agreed-text : (recorded lawful : List ℕ) → (recorded ≡ []) ⊎ (recorded ≡ lawful) → Agrees (finding recorded lawful)
agreed-text [] lawful h = tt
agreed-text (b ∷ bs) lawful (inl e) = absurd (cc e)
agreed-text (b ∷ bs) lawful (inr e) = let same : bytes_eq (b ∷ bs) lawful ≡ true =
    (bytes_eq-Decides (b ∷ bs) lawful).1 e in rw same tt

none-first : (c : Counts) (f : Finding) → c.first_unlawful ≡ None → Agrees f → (counts_with c f).first_unlawful ≡ None
none-first c Silent e h = e
none-first c Lawful e h = e
none-first c Unlawful e h = absurd h

some-first : (c : Counts) (f : Finding) (rest : List ReplyPair) → c.first_unlawful ≡ None
    → (counts_with_all (counts_with c f) rest).first_unlawful ≡ None → Agrees f
some-first c Silent rest e h = tt
some-first c Lawful rest e h = tt
some-first c Unlawful rest e h =
    let here : (counts_with c Unlawful).first_unlawful ≡ Some c.entries = rw e refl in
    let stays : (counts_with_all (counts_with c Unlawful) rest).first_unlawful ≡ Some c.entries =
    first-stays (counts_with c Unlawful) rest c.entries here in
    let bad : Some c.entries ≡ None = sym stays ∙ h in
    absurd (cc bad)

legal-answered : (c : Counts) (rest : List ReplyPair) → c.first_unlawful ≡ None
    → (counts_with_all c rest).first_unlawful ≡ None → AllByRecursion IsSilentOrLawful rest
legal-answered c [] e h = tt
legal-answered c (a ∷ rest) e h =
    let agrees = some-first c (finding_of a) rest e h in (
      answered-text a.recorded a.lawful agrees,
      legal-answered (counts_with c (finding_of a)) rest (none-first c (finding_of a) e agrees) h,
    )

answered-legal : (c : Counts) (rest : List ReplyPair) → c.first_unlawful ≡ None → AllByRecursion IsSilentOrLawful rest
    → (counts_with_all c rest).first_unlawful ≡ None
answered-legal c [] e h = e
answered-legal c (a ∷ rest) e h =
    answered-legal (counts_with c (finding_of a)) rest
    (none-first c (finding_of a) e (agreed-text a.recorded a.lawful h.0)) h.1

pub legal-exactly : LegalExactly
legal-exactly rest = (legal-answered no_counts rest refl, answered-legal no_counts rest refl)

-- ---- histories

pairs-lawful : (replies : List Reply) → AllByRecursion IsSilentOrLawful (pairs (map reply_text replies) replies)
pairs-lawful [] = tt
pairs-lawful (r ∷ rs) = (inr refl, pairs-lawful rs)

pub printed-legal : PrintedIsLegal
printed-legal day entries h k legal =
    let tells = legal-has-replay-texts day.config entries legal in (
      recorded_day day (map recorded_call_by entries),
      reads-history day entries h k legal.few,
      rw tells
          (answered-legal no_counts _ refl
          (pairs-lawful (replay day.config (map call_part (map recorded_call_by entries))).1)),
    )

-- texts that were recorded, each the lawful one
texts-agree : (rs ss : List Reply) → length rs ≡ length ss
    → AllByRecursion IsSilentOrLawful (pairs (map reply_text rs) ss) → map reply_text rs ≡ map reply_text ss
texts-agree [] [] n h = refl
texts-agree [] (s ∷ ss) n h = absurd (omega (arith, n))
texts-agree (r ∷ rs) [] n h = absurd (omega (arith, n))
texts-agree (r ∷ rs) (s ∷ ss) n h =
    let first : reply_text r ≡ reply_text s = text-same (reply_text r) (reply_text s) (reply-some r) h.0 in
    let rest : map reply_text rs ≡ map reply_text ss = texts-agree rs ss (omega (arith, n)) h.1 in
    cc
  where
    text-same : (t u : List ℕ) → 0 < length t → (t ≡ []) ⊎ (t ≡ u) → t ≡ u
    text-same t u some (inl e) = absurd (omega (arith, subst (λ (v : List ℕ). 0 < length v) e some))
    text-same t u some (inr e) = e

reply-count : (config : Config) (state : State) (entries : List Entry)
    → length (map (λ (e : Entry). e.reply) entries)
    ≡ length (replies_from config state (map call_part (map recorded_call_by entries)))
reply-count config state [] = refl
reply-count config state (e ∷ es) =
    ap suc (reply-count config (step config state (call_part (recorded_call_by e))).0 es)

pub legal-lawful : LegalIsLawful
legal-lawful day entries few clear wide h =
    let replies : List Reply = (replay day.config (map call_part (map recorded_call_by entries))).1 in
    let answered =
    rw (texts-recorded entries)
    at (legal-answered no_counts (pairs_in (recorded_day day (map recorded_call_by entries))) refl h) in
    let texts =
    texts-agree (map (λ (e : Entry). e.reply) entries) replies
    (reply-count day.config (opening_state day.config) entries) answered in
    replay-legal day.config entries few clear wide (texts-recorded entries ∙ texts)
