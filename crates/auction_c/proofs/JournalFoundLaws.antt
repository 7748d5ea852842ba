-- What is found of a journal's replies, call by call, and in all.
use Rattle.std.proofs.Common.{◌≡◌, ◌≤◌, ◌<◌, ◌+◌, ◌-◌, ◌++◌, ◌∷◌, ◌∙◌, [], ℕ, zero, suc, Bool, true, false, List}
use Rattle.std.proofs.Common.{length, map, Option, Some, None, Result, Ok, Err, refl, ap, sym, subst, arith, rules}
use Rattle.std.proofs.Common.{inl, inr}
use Rattle.std.proofs.lemmas.List.{length-map, length_push, map-append}
use Rattle.std.proofs.lemmas.List.Sums.{count_by-le-length, sum_by_push}
use Rattle.std.proofs.Math.Dec.{eqb-suc-zero}
use Rattle.std.specs.Prelude.{◌⊎◌, ◌&&◌, cond, unwrap_or}
use Rattle.std.specs.Option.{option_map_or}
use Rattle.std.specs.List.{position_from}
use Rattle.auction.specs.ConfigFault.{open_fault}
use Rattle.auction.specs.declared.OpenFault.{OpenFault}
use Rattle.auction.specs.declared.OpenFault.TheVariants.{BadBounds, BadCapacity, BadReference, NoMemory}
use Rattle.auction_terms.specs.Auxiliary.RunningAuction.{RunningAuction, auction_after, opened_auction}
use Rattle.auction_terms.specs.Results.{◌>>=◌}
use Rattle.auction_terms.specs.Day.{opening_state, state_after}
use Rattle.day_road.specs.Heard.{HeardEntry, HearsAll, after_all, heard_from}
use Rattle.day_road.specs.ReplyPairs.{ReplyPair, pair_in, pairs_in}
use Rattle.day_road.proofs.HeardLaws.{heard-pairs}
use Rattle.journal.specs.EntryRecord.{RecordedCall, call_part}
use Rattle.journal.specs.JournalEntries.{day_left, entries_left}
use Rattle.journal.specs.JournalFile.{RecordedDay, journal_of, recorded_day}
use Rattle.journal.specs.declared.day.DayHeader.{DayHeader}
use Rattle.journal.specs.declared.entries.Entries.{Entries}
use Rattle.journal.specs.declared.reading.TheConstants.{MAX_JOURNAL_BYTES}
use Rattle.journal_file.specs.Committed.{committed}
use Rattle.order_file.specs.File.{FailsAsWanted, within_limit}
use Rattle.order_file.specs.declared.fault.FileFault.{FileFault}
use Rattle.order_file.specs.declared.fault.FileFault.TheVariants as file
use Rattle.auction_c.specs.Calling.{fault_number}
use Rattle.auction_c.specs.Journals.{auction_in, is_compared}
use Rattle.auction_c.specs.Journals.{is_unlawful, journal_error, journal_found, journal_in}
use Rattle.auction_c.specs.JournalReading.{HasCompared, Reads, ReadsText, Refuses, compared_of}
use Rattle.auction_c.specs.JournalReading.{compared_with, first_with, told}
use Rattle.auction_c.specs.declared.errors.TheConstants.{BAD_JOURNAL, DONE, NO_MEMORY}
use Rattle.auction_c.specs.declared.journals.comparing.Compared.{Compared}
use Rattle.auction_c.specs.declared.journals.comparing.Comparison.{Comparison}
use Rattle.auction_c.specs.declared.structs.AuctionJournal.{AuctionJournal}

-- ---- one more

first-kept : (k n : ℕ) (b : Bool) → 0 < k → first_with k b n ≡ k
first-kept zero n b some = absurd (omega (arith, some))
first-kept (suc k) n b some = ap (λ (t : Bool). cond (t && b) n (suc k)) (eqb-suc-zero k)

first-alone : (b : Bool) (k n : ℕ) → n ≡ k → unwrap_or (cond b (Some k) None) 0 ≡ first_with 0 b n
first-alone true k n is = sym is
first-alone false k n is = refl

first-behind : (b p : Bool) (k n : ℕ) (rest more : Option ℕ) → 0 < k
    → unwrap_or more 0 ≡ first_with (unwrap_or rest 0) p n
    → unwrap_or (cond b (Some k) more) 0 ≡ first_with (unwrap_or (cond b (Some k) rest) 0) p n
first-behind true p k n rest more some is = sym (first-kept k n p some)
first-behind false p k n rest more some is = is

first-push : {X : Type 0} (test : X → Bool) (k n : ℕ) (xs : List X) (x : X) → 0 < k → n ≡ k + length xs
    → unwrap_or (position_from test k (xs ++ x ∷ [])) 0
    ≡ first_with (unwrap_or (position_from test k xs) 0) (test x) n
first-push test k n [] x some is = first-alone (test x) k n (omega (arith, is))
first-push test k n (y ∷ ys) x some is =
    let long : length (y ∷ ys) ≡ length ys + 1 = search rules in
    first-behind (test y) (test x) k n (position_from test (k + 1) ys) (position_from test (k + 1) (ys ++ x ∷ [])) some
    (first-push test (k + 1) n ys x (omega arith) (omega (arith, is, long)))

within-behind : (b : Bool) (k n : ℕ) (rest : Option ℕ) → 0 < n → unwrap_or rest 0 < k + n
    → unwrap_or (cond b (Some k) rest) 0 < k + n
within-behind true k n rest some within = omega (arith, some)
within-behind false k n rest some within = within

first-within : {X : Type 0} (test : X → Bool) (k : ℕ) (xs : List X) → 0 < k
    → unwrap_or (position_from test k xs) 0 < k + length xs
first-within test k [] some = omega (arith, some)
first-within test k (y ∷ ys) some =
    let long : length (y ∷ ys) ≡ length ys + 1 = search rules in
    within-behind (test y) k (length (y ∷ ys)) (position_from test (k + 1) ys) (omega (arith, long))
    (omega (arith, long, first-within test (k + 1) ys (omega arith)))

compared-push : (list : List ReplyPair) (a : ReplyPair)
    → compared_of (list ++ a ∷ []) ≡ compared_with (compared_of list) (is_compared a) (is_unlawful a)
compared-push list a =
    rw (
      length_push list a,
      sum_by_push (λ (x : ReplyPair). cond (is_compared x) 1 0) list a,
      sum_by_push (λ (x : ReplyPair). cond (is_unlawful x) 1 0) list a,
      first-push is_unlawful 1 (length list + 1) list a (omega arith) (omega arith),
    ) refl

pub compared-more : (old new : Compared) (before after : ℕ) (heard : List HeardEntry) (h : HeardEntry)
    → (old ≡ compared_of (map pair_in heard)) × (length heard ≡ before) → after ≡ before + 1
    → new ≡ compared_with old (is_compared (pair_in h)) (is_unlawful (pair_in h))
    → (new ≡ compared_of (map pair_in (heard ++ h ∷ []))) × (length (heard ++ h ∷ []) ≡ after)
compared-more old new before after heard h (counts, came) one is = (
  is ∙ ap (λ (c : Compared). compared_with c (is_compared (pair_in h)) (is_unlawful (pair_in h))) counts
      ∙ sym (compared-push (map pair_in heard) (pair_in h))
      ∙ ap compared_of (sym (map-append pair_in heard (h ∷ []))),
  length_push heard h ∙ ap (λ (n : ℕ). n + 1) came ∙ sym one,
)

-- ---- the counts are at most those of all

-- what a comparison knows of the bounds of its counts
pub record IsWithin (c : Compared) (calls : ℕ) : Type 0 where
  pub all : c.calls ≡ calls
  pub compared : c.compared ≤ calls
  pub unlawful : c.unlawful ≤ calls
  pub first : c.first_unlawful ≤ calls

within-of : (list : List ReplyPair) → IsWithin (compared_of list) (length list)
within-of list = record {
  all = refl;
  compared = count_by-le-length is_compared list;
  unlawful = count_by-le-length is_unlawful list;
  first = omega (arith, first-within is_unlawful 1 list (omega arith));
}

pub counts-within : (c : Comparison) (auction : RunningAuction) (heard : List HeardEntry)
    → HasCompared c auction heard → IsWithin c.counts auction.calls
counts-within c auction heard (counts, came) =
    let long : length (map pair_in heard) ≡ auction.calls = length-map heard pair_in ∙ came in
    subst (λ (n : ℕ). IsWithin c.counts n) long
    (subst (λ (k : Compared). IsWithin k (length (map pair_in heard))) (sym counts) (within-of (map pair_in heard)))

-- ---- all

after-is : (day : DayHeader) (rs : List RecordedCall)
    → after_all (opened_auction day.config) rs ≡ auction_after day.config (map call_part rs)
after-is day rs =
    let count : 0 + length rs ≡ length (map call_part rs) = omega (arith, length-map rs call_part) in
    ap (λ (n : ℕ). record {
      config = day.config;
      state = state_after day.config (opening_state day.config) (map call_part rs);
      calls = n;
    }) count

opens-done : (said : Result RecordedDay FileFault) (j : RecordedDay) (why : Option OpenFault) → said ≡ Ok j
    → open_fault j.day.config ≡ why → journal_error said ≡ option_map_or fault_number why DONE
opens-done said j why is opens =
    ap journal_error is ∙ ap (λ (o : Option OpenFault). option_map_or fault_number o DONE) opens

pub read-all : (entries : Entries) (c : Comparison) (old new : RunningAuction) (found : AuctionJournal) (calls : ℕ)
    → old ≡ opened_auction entries.day.config → open_fault entries.day.config ≡ None
    → HearsAll (HasCompared c new) [] old new (entries_left entries) (Ok tt)
    → calls ≡ new.calls → found ≡ told c.counts entries.day.members calls
    → Reads (day_left entries) new found
read-all entries c old new found calls is opens hears told_calls tells =
    let (rs, coming, came, heard) = rw is at hears in
    let day = entries.day in
    let j = recorded_day day rs in
    let said : day_left entries ≡ Ok j =
    ap (λ (left : Result (List RecordedCall) FileFault). left >>= λ recording. Ok (recorded_day day recording))
    coming in
    let after : new ≡ auction_after day.config (map call_part rs) = came ∙ after-is day rs in
    let counts : c.counts ≡ compared_of (pairs_in j) =
    heard.0 ∙ ap compared_of (heard-pairs day.config (opening_state day.config) rs) in
    let count : calls ≡ length (map call_part rs) = told_calls ∙ ap (λ (a : RunningAuction). a.calls) after in (
      opens-done (day_left entries) j None said opens,
      ap auction_in said ∙ ap (λ (a : RunningAuction). Some a) (sym after),
      tells ∙ ap (λ (k : Compared). told k day.members calls) counts
          ∙ ap (λ (n : ℕ). told (compared_of (pairs_in j)) day.members n) count ∙ ap journal_found (sym said),
    )

-- ---- what is refused

-- the number of a config's fault
config-number : (fault : OpenFault) → (0 < fault_number fault) × (fault_number fault < BAD_JOURNAL)
config-number BadBounds = (omega arith, omega arith)
config-number BadReference = (omega arith, omega arith)
config-number BadCapacity = (omega arith, omega arith)
config-number NoMemory = (omega arith, omega arith)

config-error : (said : Result RecordedDay FileFault) (j : RecordedDay) (why : Option OpenFault) → said ≡ Ok j
    → open_fault j.day.config ≡ why
    → (fault_number (unwrap_or why NoMemory) ≡ journal_error said) ⊎ (fault_number (unwrap_or why NoMemory) ≡ NO_MEMORY)
config-error said j None is opens = inr refl
config-error said j (Some w) is opens = inl (sym (opens-done said j (Some w) is opens))

pub config-refused : (said : Result RecordedDay FileFault) (j : RecordedDay) (old : AuctionJournal) (fault : OpenFault)
    → said ≡ Ok j → fault ≡ unwrap_or (open_fault j.day.config) NoMemory → Refuses said old old (fault_number fault)
config-refused said j old fault is why =
    let (some, below) = config-number fault in
    record {
      error =
          subst (λ (f : OpenFault). (fault_number f ≡ journal_error said) ⊎ (fault_number f ≡ NO_MEMORY)) (sym why)
          (config-error said j (open_fault j.day.config) is refl);
      refused = some;
      fault = λ e. absurd (omega (arith, e, below));
      same = λ _. refl;
    }

-- ---- the text

pub too-long : (text : List ℕ) → MAX_JOURNAL_BYTES < length text → FailsAsWanted file.TooLong (journal_in text)
unfolding journal_in within_limit
too-long text long = search (rules, long)

pub short-text : (text : List ℕ) → length text ≤ MAX_JOURNAL_BYTES → journal_in text ≡ journal_of (committed text)
unfolding journal_in within_limit
short-text text short = search (rules, short)

pub read-of-lines : (text lines : List ℕ) (old new : AuctionJournal) (auction : RunningAuction) (taken : ℕ)
    → length text ≤ MAX_JOURNAL_BYTES → taken ≡ length (committed text) → lines ≡ committed text
    → Reads (journal_of lines) auction new → ReadsText text old (record new { taken = taken }) (Ok auction)
read-of-lines text lines old new auction taken short count whole (opens, is, found) =
    let said : journal_in text ≡ journal_of lines = short-text text short ∙ ap journal_of (sym whole) in (
      ap journal_error said ∙ opens,
      ap auction_in said ∙ is,
      ap (λ (f : AuctionJournal). record f { taken = taken }) (found ∙ ap journal_found (sym said))
          ∙ ap (λ (n : ℕ). record (journal_found (journal_in text)) { taken = n }) count,
    )

pub refused-of-lines : (text lines : List ℕ) (old new : AuctionJournal) (error : ℕ)
    → length text ≤ MAX_JOURNAL_BYTES → lines ≡ committed text → Refuses (journal_of lines) old new error
    → Refuses (journal_in text) old new error
refused-of-lines text lines old new error short whole refuses =
    subst (λ (s : Result RecordedDay FileFault). Refuses s old new error)
    (ap journal_of whole ∙ sym (short-text text short)) refuses
