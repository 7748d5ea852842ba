-- The first unlawful entry of a journal, and the journal replayed.
use Rattle.std.proofs.Common.{◌≡◌, ◌+◌, ◌-◌, ◌++◌, ◌∷◌, ◌∙◌, [], ℕ, List, Bool, true, false, Option, Some, None}
use Rattle.std.proofs.Common.{Result, Ok, Err, if◌then◌else◌, option_map, is_some, length, map, refl, ap, sym}
use Rattle.std.proofs.Common.{append_assoc, length-append, arith, rules}
use Rattle.std.proofs.lemmas.List.{length-map}
use Rattle.std.specs.Prelude.{unwrap_or}
use Rattle.std.specs.Str.{bytes_eq}
use Rattle.csv.specs.Records.{field_at}
use Rattle.auction_terms.specs.declared.Call.{Call}
use Rattle.auction_terms.specs.declared.Config.{Config}
use Rattle.auction_terms.specs.declared.Reply.{Reply}
use Rattle.auction_terms.specs.Auxiliary.RunningAuction.{RunningAuction, auction_after_call, opened_auction}
use Rattle.auction_terms.specs.Day.{State, state_after, step}
use Rattle.day_road.specs.Heard.{HeardEntry, HearsAll, after_all, heard_from, heard_in, recording_of}
use Rattle.journal.specs.JournalEntries.{day_left, entries_left}
use Rattle.journal.specs.declared.entries.Entries.{Entries}
use Rattle.live_session.specs.Resumed.{IsResumedFrom}
use Rattle.live_session.specs.declared.begin_fault.ResumeFault.TheVariants as resume_fault
use Rattle.journal.specs.EntryRecord.{RecordedCall, call_part, reply_part}
use Rattle.journal.specs.JournalFile.{recorded_day}
use Rattle.journal.specs.declared.day.DayHeader.{DayHeader}
use Rattle.printed_lines.specs.ReplyWords.{reply_text}
use Rattle.live_session.specs.Looked.{Found, HasLooked, IsLooking, first_unlawful, found_of}
use Rattle.live_session.specs.Replayed.{replayed}
use Rattle.live_session.specs.declared.begin_fault.UnlawfulEntry.{UnlawfulEntry}
use Rattle.live_session.specs.declared.looking.FirstUnlawful.{FirstUnlawful}

-- ---- one entry more

-- the first stays the first
still-first : (before : ℕ) (hs : List HeardEntry) (h : HeardEntry) (x : Found) → first_unlawful before hs ≡ Some x
    → first_unlawful before (hs ++ h ∷ []) ≡ Some x
unfolding first_unlawful
still-first before [] h x e = absurd (cc e)
still-first before (y ∷ hs) h x e =
    by_case (still-first (before + 1) hs h x) (bytes_eq y.recording.text (reply_text y.reply)) refl e
  where
    by_case : (first_unlawful (before + 1) hs ≡ Some x → first_unlawful (before + 1) (hs ++ h ∷ []) ≡ Some x)
        → (b : Bool) → bytes_eq y.recording.text (reply_text y.reply) ≡ b
        → first_unlawful before (y ∷ hs) ≡ Some x
        → first_unlawful before (y ∷ hs ++ h ∷ []) ≡ Some x
    by_case rest true t q = rw t (rest (rw t at q))
    by_case rest false t q = rw t (rw t at q)

-- where there is none, it is this one or none
first-next : (before n : ℕ) (hs : List HeardEntry) (h : HeardEntry) → n ≡ before + length hs + 1
    → first_unlawful before hs ≡ None
    → first_unlawful before (hs ++ h ∷ [])
    ≡ (if bytes_eq h.recording.text (reply_text h.reply) then None else Some (found_of n h))
unfolding first_unlawful
first-next before n [] h e none = let same : n ≡ before + 1 = omega (arith, e) in rw same refl
first-next before n (y ∷ hs) h e none =
    let long : length (y ∷ hs) ≡ length hs + 1 = search rules in
    by_case (first-next (before + 1) n hs h (omega (arith, e, long)))
    (bytes_eq y.recording.text (reply_text y.reply)) refl none
  where
    by_case : (first_unlawful (before + 1) hs ≡ None → first_unlawful (before + 1) (hs ++ h ∷ [])
        ≡ (if bytes_eq h.recording.text (reply_text h.reply) then None else Some (found_of n h)))
        → (b : Bool) → bytes_eq y.recording.text (reply_text y.reply) ≡ b
        → first_unlawful before (y ∷ hs) ≡ None
        → first_unlawful before (y ∷ hs ++ h ∷ [])
        ≡ (if bytes_eq h.recording.text (reply_text h.reply) then None else Some (found_of n h))
    by_case rest true t q = rw t (rest (rw t at q))
    by_case rest false t q = absurd (cc (rw t at q))

-- the entry, if there is one, with what was recorded
abbrev pub found_with : Option UnlawfulEntry → List ℕ → Option Found
found_with o recorded = option_map (λ entry. record { entry = entry; recorded = recorded }) o

found-same : (o : Option UnlawfulEntry) (recorded : List ℕ) (heard : List HeardEntry) (h : HeardEntry)
    → is_some o ≡ true → found_with o recorded ≡ first_unlawful 0 heard
    → found_with o recorded ≡ first_unlawful 0 (heard ++ h ∷ [])
found-same None recorded heard h s is = absurd (cc s)
found-same (Some entry) recorded heard h s is =
    sym (still-first 0 heard h (record { entry = entry; recorded = recorded }) (sym is))

found-none : (o : Option UnlawfulEntry) (recorded : List ℕ) (heard : List HeardEntry) → is_some o ≡ false
    → found_with o recorded ≡ first_unlawful 0 heard → first_unlawful 0 heard ≡ None
found-none None recorded heard s is = sym is
found-none (Some entry) recorded heard s is = absurd (cc s)

none-with : (o : Option UnlawfulEntry) (recorded : List ℕ) → is_some o ≡ false → found_with o recorded ≡ None
none-with None recorded s = refl
none-with (Some entry) recorded s = absurd (cc s)

module _ (first : FirstUnlawful) (auction : RunningAuction) (heard : List HeardEntry) (call : Call) (text : List ℕ)
    (reply : Reply) (answered : reply ≡ (step auction.config auction.state call).1)
    (looks : IsLooking first auction heard)
  where
    abbrev pub one : HeardEntry
    one = heard_in auction (recording_of call text)

    longer : length (heard ++ one ∷ []) ≡ (auction_after_call auction call).calls
    longer = omega (arith, length-append heard (one ∷ []), looks.0.1)

    pub look-found : is_some first.entry ≡ true
        → (found_with first.entry first.recorded.items ≡ first_unlawful 0 (heard ++ one ∷ []))
        × (length (heard ++ one ∷ []) ≡ (auction_after_call auction call).calls)
    look-found some = (found-same first.entry first.recorded.items heard one some looks.0.0, longer)

    next : is_some first.entry ≡ false → first_unlawful 0 (heard ++ one ∷ [])
        ≡ (if bytes_eq text (reply_text reply) then None else Some (record {
          entry = record { number = first.number; lawful = reply };
          recorded = text;
        }))
    next none =
        first-next 0 first.number heard one (omega (arith, looks.1, looks.0.1))
        (found-none first.entry first.recorded.items heard none looks.0.0)
        ∙ ap (λ (lawful : Reply). if bytes_eq text (reply_text lawful) then None else Some (record {
          entry = record { number = first.number; lawful = lawful };
          recorded = text;
        })) (sym answered)

    pub look-lawful : is_some first.entry ≡ false → bytes_eq text (reply_text reply) ≡ true
        → (found_with first.entry first.recorded.items ≡ first_unlawful 0 (heard ++ one ∷ []))
        × (length (heard ++ one ∷ []) ≡ (auction_after_call auction call).calls)
    look-lawful none same = (
      none-with first.entry first.recorded.items none ∙ sym (rw same at next none),
      longer,
    )

    pub look-unlawful : (recorded : List ℕ) → is_some first.entry ≡ false → bytes_eq text (reply_text reply) ≡ false
        → recorded ≡ text
        → (found_with (Some (record { number = first.number; lawful = reply })) recorded
        ≡ first_unlawful 0 (heard ++ one ∷ []))
        × (length (heard ++ one ∷ []) ≡ (auction_after_call auction call).calls)
    look-unlawful recorded none other is = (rw is (sym (rw other at next none)), longer)

-- ---- a journal, replayed

-- after these calls, one by one
unfoldable pub after_each : RunningAuction → List Call → RunningAuction
after_each auction [] = auction
after_each auction (call ∷ calls) = after_each (auction_after_call auction call) calls

pub after-each-is : (auction : RunningAuction) (calls : List Call)
    → after_each auction calls ≡ record {
      config = auction.config;
      state = state_after auction.config auction.state calls;
      calls = auction.calls + length calls;
    }
unfolding after_each
after-each-is auction [] = ap (λ (n : ℕ). record { config = auction.config; state = auction.state; calls = n })
    (omega arith)
after-each-is auction (call ∷ calls) =
    after-each-is (auction_after_call auction call) calls
    ∙ ap (λ (n : ℕ). record {
      config = auction.config;
      state = state_after auction.config auction.state (call ∷ calls);
      calls = n;
    }) (omega arith)

pub at-behind : (front : List (List ℕ)) (x : List ℕ) (rest : List (List ℕ))
    → field_at (front ++ x ∷ rest) (length front) ≡ Some x
unfolding field_at
at-behind [] x rest = refl
at-behind (f ∷ front) x rest = at-behind front x rest

after-all-is : (auction : RunningAuction) (rs : List RecordedCall)
    → after_each auction (map call_part rs) ≡ after_all auction rs
after-all-is auction rs = after-each-is auction (map call_part rs) ∙ rw (length-map rs call_part) refl

-- what comes of a journal, of whose entries this is the first that is unlawful
abbrev outcome : Option Found → RunningAuction → Result RunningAuction UnlawfulEntry
outcome None auction = Ok auction
outcome (Some found) auction = Err found.entry

replayed-from : (front : List (List ℕ)) (auction : RunningAuction) (rs : List RecordedCall)
    → replayed (length front) (front ++ map reply_part rs) auction (map call_part rs)
    ≡ outcome (first_unlawful (length front) (heard_from auction.config auction.state rs))
    (after_each auction (map call_part rs))
unfolding replayed after_each first_unlawful
replayed-from front auction [] = refl
replayed-from front auction (r ∷ rs) =
    by_case (replayed-from (front ++ r.text ∷ []) (auction_after_call auction r.call) rs)
    (bytes_eq r.text (reply_text (step auction.config auction.state r.call).1)) refl
  where
    next : RunningAuction
    next = auction_after_call auction r.call

    size : length (front ++ r.text ∷ []) ≡ length front + 1
    size = omega (arith, length-append front (r.text ∷ []))

    by_case : replayed (length (front ++ r.text ∷ [])) ((front ++ r.text ∷ []) ++ map reply_part rs) next
        (map call_part rs)
        ≡ outcome (first_unlawful (length (front ++ r.text ∷ [])) (heard_from next.config next.state rs))
        (after_each next (map call_part rs))
        → (b : Bool) → bytes_eq r.text (reply_text (step auction.config auction.state r.call).1) ≡ b
        → replayed (length front) (front ++ map reply_part (r ∷ rs)) auction (map call_part (r ∷ rs))
        ≡ outcome (first_unlawful (length front) (heard_from auction.config auction.state (r ∷ rs)))
        (after_each auction (map call_part (r ∷ rs)))
    by_case rest true t =
        rw (
          at-behind front r.text (map reply_part rs),
          t,
          ← size,
          ← append_assoc front (r.text ∷ []) (map reply_part rs),
        ) rest
    by_case rest false t = rw (at-behind front r.text (map reply_part rs), t) refl

recorded-at : (front : List (List ℕ)) (config : Config) (state : State) (rs : List RecordedCall) (found : Found)
    → first_unlawful (length front) (heard_from config state rs) ≡ Some found
    → found.recorded ≡ unwrap_or (field_at (front ++ map reply_part rs) (found.entry.number - 1)) []
unfolding first_unlawful
recorded-at front config state [] found e = absurd (cc e)
recorded-at front config state (r ∷ rs) found e =
    by_case (recorded-at (front ++ r.text ∷ []) config (step config state r.call).0 rs found)
    (bytes_eq r.text (reply_text (step config state r.call).1)) refl e
  where
    size : length (front ++ r.text ∷ []) ≡ length front + 1
    size = omega (arith, length-append front (r.text ∷ []))

    by_case : (first_unlawful (length (front ++ r.text ∷ [])) (heard_from config (step config state r.call).0 rs)
        ≡ Some found
        → found.recorded
        ≡ unwrap_or (field_at ((front ++ r.text ∷ []) ++ map reply_part rs) (found.entry.number - 1)) [])
        → (b : Bool) → bytes_eq r.text (reply_text (step config state r.call).1) ≡ b
        → first_unlawful (length front) (heard_from config state (r ∷ rs)) ≡ Some found
        → found.recorded ≡ unwrap_or (field_at (front ++ map reply_part (r ∷ rs)) (found.entry.number - 1)) []
    by_case rest true t q =
        rw (← append_assoc front (r.text ∷ []) (map reply_part rs)) (rest (rw (t, ← size) at q))
    by_case rest false t q =
        let here : HeardEntry = heard_in (record { config = config; state = state; calls = 0 }) r in
        let is : found_of (length front + 1) here ≡ found =
        cc (rw t at q) in
        let place : length front + 1 - 1 ≡ length front = omega arith in
        rw (← is, place, at-behind front r.text (map reply_part rs)) refl

-- a journal of lawful replies
pub looked-lawful : (day : DayHeader) (rs : List RecordedCall)
    → first_unlawful 0 (heard_from day.config (opened_auction day.config).state rs) ≡ None
    → replayed 0 (recorded_day day rs).texts (opened_auction day.config) (recorded_day day rs).calls
    ≡ Ok (after_all (opened_auction day.config) rs)
looked-lawful day rs none =
    replayed-from [] (opened_auction day.config) rs ∙ rw none (ap Ok (after-all-is (opened_auction day.config) rs))

-- one with an unlawful entry
pub looked-unlawful : (day : DayHeader) (rs : List RecordedCall) (found : Found)
    → first_unlawful 0 (heard_from day.config (opened_auction day.config).state rs) ≡ Some found
    → replayed 0 (recorded_day day rs).texts (opened_auction day.config) (recorded_day day rs).calls ≡ Err found.entry
looked-unlawful day rs found is = replayed-from [] (opened_auction day.config) rs ∙ rw is refl

pub looked-text : (day : DayHeader) (rs : List RecordedCall) (found : Found)
    → first_unlawful 0 (heard_from day.config (opened_auction day.config).state rs) ≡ Some found
    → found.recorded ≡ unwrap_or (field_at (recorded_day day rs).texts (found.entry.number - 1)) []
looked-text day rs found is = recorded-at [] day.config (opened_auction day.config).state rs found is

-- ---- a session that goes on

pub resumed-well : (day : DayHeader) (entries : Entries) (first : FirstUnlawful) (old new : RunningAuction)
    → old ≡ opened_auction day.config → entries.day ≡ day
    → HearsAll (HasLooked first new) [] old new (entries_left entries) (Ok tt) → first.entry ≡ None
    → IsResumedFrom day (day_left entries) (Ok new)
resumed-well day entries first old new fresh same hears none =
    let (rs, coming, came, looked) = rw fresh at hears in
    let found : first_unlawful 0 (heard_from day.config (opened_auction day.config).state rs) ≡ None =
    sym looked.0 ∙ rw none refl in
    rw coming (same, looked-lawful day rs found ∙ ap Ok (sym came))

pub resumed-ill : (day : DayHeader) (entries : Entries) (first : FirstUnlawful) (old new : RunningAuction)
    (entry : UnlawfulEntry) → old ≡ opened_auction day.config → entries.day ≡ day
    → HearsAll (HasLooked first new) [] old new (entries_left entries) (Ok tt) → first.entry ≡ Some entry
    → IsResumedFrom day (day_left entries) (Err (resume_fault.Unlawful entry first.recorded))
resumed-ill day entries first old new entry fresh same hears some =
    let (rs, coming, came, looked) = rw fresh at hears in
    let found : first_unlawful 0 (heard_from day.config (opened_auction day.config).state rs)
    ≡ Some (record { entry = entry; recorded = first.recorded.items }) =
    sym looked.0 ∙ rw some refl in
    rw coming (same, looked-unlawful day rs _ found, looked-text day rs _ found)
