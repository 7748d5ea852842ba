-- What an audit finds of what it hears.
use Rattle.std.proofs.Common.{◌≡◌, ◌≤◌, ◌+◌, ◌-◌, ◌++◌, ◌∷◌, ◌∙◌, [], ℕ, Bool, true, false, List, length, map, arith}
use Rattle.std.proofs.Common.{rules, Option, Some, None, Result, Ok, Err, refl, ap, subst, sym, append_assoc}
use Rattle.std.specs.Prelude.{IfSome, nat_le}
use Rattle.printed_lines.specs.declared.page.TheConstants.{LONGEST_LINE}
use Rattle.journal.specs.declared.entry.TheConstants.{MAX_REPLY}
use Rattle.std.proofs.lemmas.List.{append-nil, length_push, map-append}
use Rattle.auction.specs.ConfigFault.{open_fault}
use Rattle.auction_terms.specs.declared.AuctionKind.{AuctionKind}
use Rattle.auction_terms.specs.declared.Config.{Config}
use Rattle.auction_terms.specs.declared.Reply.{Reply}
use Rattle.auction_terms.specs.Auxiliary.RunningAuction.{RunningAuction, opened_auction}
use Rattle.auction_terms.specs.Day.{State, opening_state, replies_from, step}
use Rattle.day_road.specs.Heard.{HeardEntry, HearsAll, after_all, heard_from, reply_heard}
use Rattle.day_road.specs.ReplyPairs.{ReplyPair, pair_in, pairs_in}
use Rattle.day_road.proofs.HeardLaws.{heard-pairs}
use Rattle.journal.specs.JournalEntries.{day_left, entries_left}
use Rattle.journal.specs.EntryRecord.{IsReplyText, RecordedCall, call_part, is_reply_text}
use Rattle.journal.specs.JournalFile.{RecordedDay, journal_of, recorded_day}
use Rattle.journal.specs.declared.day.DayHeader.{DayHeader}
use Rattle.journal.specs.declared.entries.Entries.{Entries}
use Rattle.journal.specs.declared.reading.TheConstants.{MAX_JOURNAL_BYTES}
use Rattle.journal.proofs.RecordLineLaws.{and-left}
use Rattle.journal_file.specs.Committed.{committed}
use Rattle.order_file.specs.File.{FailsAsWanted, within_limit}
use Rattle.order_file.specs.declared.fault.FileFault.{FileFault}
use Rattle.order_file.proofs.BlockCallLaws.{fails-alike}
use Rattle.printed_lines.specs.KeptText.{kept_text}
use Rattle.day_audit.specs.AuditCounts.{counts_of, counts_with, counts_with_all, finding_of, no_counts}
use Rattle.day_audit.specs.AuditText.{difference, differences}
use Rattle.day_audit.specs.Found.{HasFound, HasFoundOf, HasAudited, found_copy_text, found_text}
use Rattle.day_audit.specs.JournalAudit.{IsAuditOf}
use Rattle.day_audit.specs.JournalCopies.{behind_whole, copy_of, journal_copy}
use Rattle.day_audit.specs.ResultsText.{copy_text, printed_text, uncross_line, uncross_lines}
use Rattle.day_audit.specs.declared.counts.Counts.{Counts}
use Rattle.day_audit.specs.declared.counts.Finding.{Finding}
use Rattle.day_audit.specs.declared.fault.AuditFault.{AuditFault}
use Rattle.day_audit.specs.declared.fault.AuditFault.TheVariants.{File, Open, WriteFailed}
use Rattle.day_audit.specs.declared.findings.Findings.{Findings}
use Rattle.day_audit.proofs.AnswerLaws.{compared-counted, entries-counted, unlawful-counted}
use Rattle.day_audit.proofs.JournalAuditLaws.{audit-open}

-- ---- one more

counts-push : (c : Counts) (xs : List ReplyPair) (a : ReplyPair)
    → counts_with_all c (xs ++ a ∷ []) ≡ counts_with (counts_with_all c xs) (finding_of a)
counts-push c [] a = refl
counts-push c (x ∷ xs) a = counts-push (counts_with c (finding_of x)) xs a

differences-push : (before n : ℕ) (xs : List ReplyPair) (a : ReplyPair) → n ≡ before + length xs + 1
    → differences before (xs ++ a ∷ []) ≡ differences before xs ++ difference n a (finding_of a)
unfolding differences
differences-push before n [] a e = let same : n ≡ before + 1 = omega (arith, e) in rw same (append-nil _)
differences-push before n (x ∷ xs) a e =
    let long : length (x ∷ xs) ≡ length xs + 1 = search rules in
    ap (λ t. difference (before + 1) x (finding_of x) ++ t)
    (differences-push (before + 1) n xs a (omega (arith, e, long)))
    ∙ sym (append_assoc (difference (before + 1) x (finding_of x)) _ _)

uncrosses-push : (before n : ℕ) (xs : List Reply) (reply : Reply) → n ≡ before + length xs + 1
    → uncross_lines before (xs ++ reply ∷ []) ≡ uncross_lines before xs ++ uncross_line n reply
unfolding uncross_lines
uncrosses-push before n [] reply e = let same : n ≡ before + 1 = omega (arith, e) in rw same (append-nil _)
uncrosses-push before n (x ∷ xs) reply e =
    let long : length (x ∷ xs) ≡ length xs + 1 = search rules in
    ap (λ t. uncross_line (before + 1) x ++ t) (uncrosses-push (before + 1) n xs reply (omega (arith, e, long)))
    ∙ sym (append_assoc (uncross_line (before + 1) x) _ _)

map-long : {X Y : Type 0} (f : X → Y) (xs : List X) → length (map f xs) ≡ length xs
map-long f [] = refl
map-long f (x ∷ xs) = search (rules, map-long f xs)

pub found-more : (old new : Findings) (heard : List HeardEntry) (h : HeardEntry) (f : Finding) (n : ℕ)
    → HasFound old heard → n ≡ old.counts.entries + 1 → f ≡ finding_of (pair_in h)
    → new.counts ≡ counts_with old.counts f
    → kept_text new.lines ≡ kept_text old.lines ++ difference n (pair_in h) f
    → kept_text new.results ≡ kept_text old.results ++ uncross_line n h.reply → HasFound new (heard ++ h ∷ [])
found-more old new heard h f n found number finds counts lines results =
    let as_pairs = map-append pair_in heard (h ∷ []) in
    let as_replies = map-append reply_heard heard (h ∷ []) in
    let more : length (heard ++ h ∷ []) ≡ length heard + 1 = search (rules, length_push) in
    let answered : n ≡ 0 + length (map pair_in heard) + 1 =
    omega (arith, number, found.entries, map-long pair_in heard) in
    let replied : n ≡ 0 + length (map reply_heard heard) + 1 =
    omega (arith, number, found.entries, map-long reply_heard heard) in
    record {
      counts = counts ∙ rw (found.counts, finds) (sym (counts-push no_counts (map pair_in heard) (pair_in h)))
          ∙ ap counts_of (sym as_pairs);
      entries = ap (λ (c : Counts). c.entries) counts ∙ entries-counted old.counts f _ found.entries ∙ sym more;
      compared = rw (counts, more) (compared-counted old.counts f _ found.compared);
      unlawful = rw (counts, more) (unlawful-counted old.counts f _ found.unlawful);
      lines = lines
          ∙ rw (found.lines, finds) (sym (differences-push 0 n (map pair_in heard) (pair_in h) answered))
          ∙ ap (differences 0) (sym as_pairs);
      results = results ∙ rw found.results (sym (uncrosses-push 0 n (map reply_heard heard) h.reply replied))
          ∙ ap (uncross_lines 0) (sym as_replies);
    }

-- ---- all

heard-replies : (config : Config) (state : State) (rs : List RecordedCall)
    → map reply_heard (heard_from config state rs) ≡ replies_from config state (map call_part rs)
heard-replies config state [] = refl
heard-replies config state (r ∷ rs) =
    ap (λ rest. (step config state r.call).1 ∷ rest) (heard-replies config (step config state r.call).0 rs)

-- what is printed of a day that was heard
found-day : (day : DayHeader) (rs : List RecordedCall) (findings : Findings) (results : Bool)
    → HasFound findings (heard_from day.config (opening_state day.config) rs)
    → found_text results findings (after_all (opened_auction day.config) rs).state.auction
    ≡ printed_text results (recorded_day day rs)
found-day day rs findings true found =
    rw (
      found.lines,
      found.counts,
      found.results,
      heard-pairs day.config (opening_state day.config) rs,
      heard-replies day.config (opening_state day.config) rs,
    ) (sym (append_assoc (differences 0 (pairs_in (recorded_day day rs))) _ _))
found-day day rs findings false found =
    rw (found.lines, found.counts, heard-pairs day.config (opening_state day.config) rs)
    (sym (append_assoc (differences 0 (pairs_in (recorded_day day rs))) _ _))

pub audited : (entries : Entries) (findings : Findings) (old new : RunningAuction)
    → old ≡ opened_auction entries.day.config → open_fault entries.day.config ≡ None
    → HearsAll (HasFoundOf findings new) [] old new (entries_left entries) (Ok tt)
    → HasAudited (day_left entries) findings (Ok new.state.auction)
audited entries findings old new is opens hears =
    let (rs, coming, came, heard) = rw is at hears in
    let found = heard.0 in (
      recorded_day entries.day rs,
      rw coming refl,
      opens,
      found.counts ∙ ap counts_of (heard-pairs entries.day.config (opening_state entries.day.config) rs),
      λ results. rw came (found-day entries.day rs findings results found),
    )

-- ---- a copy that was read

pub whole-audited : (bytes whole : List ℕ) (findings : Findings) (r : Result (Option AuctionKind) AuditFault)
    → whole ≡ committed bytes → HasAudited (journal_of whole) findings r
    → HasAudited (journal_of (committed bytes)) findings r
whole-audited bytes whole findings r is h =
    subst (λ (text : List ℕ). HasAudited (journal_of text) findings r) is h

pub copy-read : (left : Option (List ℕ)) (bytes : List ℕ)
    → IfSome left (λ all. within_limit MAX_JOURNAL_BYTES all ≡ Ok bytes)
    → IfSome left (λ all. journal_copy all ≡ copy_of bytes)
unfolding journal_copy
copy-read None bytes h = tt
copy-read (Some all) bytes h = rw h refl

pub copy-unread : (results : Bool) (left old new : Option (List ℕ)) (f : FileFault)
    → IfSome left (λ all. FailsAsWanted f (within_limit MAX_JOURNAL_BYTES all))
    → IfSome left (λ all. IsAuditOf results old new (journal_copy all) (Err (File f)))
unfolding journal_copy
copy-unread results None old new f h = tt
copy-unread results (Some all) old new f h =
    fails-alike f (within_limit MAX_JOURNAL_BYTES all) (journal_copy all) (λ e. rw e refl) h

pub copy-said : (left : Option (List ℕ)) (bytes : List ℕ) (j : RecordedDay)
    → IfSome left (λ all. journal_copy all ≡ copy_of bytes) → journal_of (committed bytes) ≡ Ok j
    → IfSome left (λ all. journal_copy all ≡ Ok (record { recorded = j; behind = behind_whole bytes }))
unfolding copy_of
copy-said None bytes j h e = tt
copy-said (Some all) bytes j h e = h ∙ rw e refl

pub behind-is : (bytes shown : List ℕ) (whole : ℕ) → shown ≡ bytes → whole ≡ length (committed shown)
    → length shown - whole ≡ behind_whole bytes
behind-is bytes shown whole same count = rw (count, same) refl

pub audit-refused : (results : Bool) (left old new : Option (List ℕ)) (bytes : List ℕ) (findings : Findings)
    (fault : AuditFault) → IfSome left (λ all. journal_copy all ≡ copy_of bytes)
    → HasAudited (journal_of (committed bytes)) findings (Err fault)
    → IfSome left (λ all. IsAuditOf results old new (journal_copy all) (Err fault))
unfolding copy_of
audit-refused results None old new bytes findings fault h a = tt
audit-refused results (Some all) old new bytes findings (File f) h a =
    rw h (fails-alike f (journal_of (committed bytes)) (copy_of bytes) (λ e. rw e refl) a)
audit-refused results (Some all) old new bytes findings (Open f) h (j, is, why) =
    audit-open results (Some all) old new (record { recorded = j; behind = behind_whole bytes }) f (h ∙ rw is refl) why
audit-refused results (Some all) old new bytes findings WriteFailed h a = absurd a

pub text-of-copy : (results : Bool) (findings : Findings) (current : Option AuctionKind) (j : RecordedDay)
    (behind n : ℕ)
    → found_text results findings current ≡ printed_text results j → findings.counts ≡ counts_of (pairs_in j)
    → n ≡ behind
    → found_copy_text results findings current n ≡ copy_text results (record { recorded = j; behind = behind })
text-of-copy results findings current j behind n text counts same = rw (text, counts, same) refl

-- ---- text that is put behind other text

pub put-more : (kept full page put a : List ℕ) → full ++ page ≡ kept → put ≡ page ++ a → full ++ put ≡ kept ++ a
put-more kept full page put a is puts = rw puts (sym (append_assoc full page a) ∙ ap (λ (t : List ℕ). t ++ a) is)

pub reply-short : (text : List ℕ) → IsReplyText text → length text ≤ LONGEST_LINE
unfolding is_reply_text
reply-short text e =
    let few : nat_le (length text) MAX_REPLY ≡ true = and-left _ _ e in
    let within : length text ≤ MAX_REPLY = search rules in
    omega (arith, within)
