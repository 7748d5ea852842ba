-- How long a journal is, and a history's journal read back.
use Rattle.std.proofs.Common.{◌≡◌, ◌≤◌, ◌<◌, ◌*◌, ◌+◌, ◌∷◌, ◌∙◌, [], ℕ, suc, List, Bool, Option, Some, None, refl, ap}
use Rattle.std.proofs.Common.{arith, length, length-append, map, nat_lt, true, false}
use Rattle.std.specs.Prelude.{IfSome, Ok, decimal}
use Rattle.std.specs.List.{AllByRecursion}
use Rattle.std.proofs.lemmas.Fmt.{length-decimal-le}
use Rattle.auction_terms.specs.declared.limits.TheConstants.{MAX_CALLS, MAX_MEMBERS, MAX_OPEN_ORDERS, MAX_TICK}
use Rattle.auction_terms.specs.declared.Side.{Side}
use Rattle.auction_terms.specs.declared.Side.TheVariants.{Bid, Ask}
use Rattle.auction_terms.specs.declared.Limit.{Limit}
use Rattle.auction_terms.specs.declared.Limit.TheVariants.{Market, At}
use Rattle.auction_terms.specs.declared.Restriction.{Restriction}
use Rattle.auction_terms.specs.declared.Restriction.TheVariants.{Unrestricted, OpeningOnly, ClosingOnly}
use Rattle.auction_terms.specs.declared.Command.{Command}
use Rattle.auction_terms.specs.declared.Command.TheVariants.{Enter, Change, Delete, OrderStatus, Indicate, ReadTrade}
use Rattle.auction_terms.specs.declared.Command.TheVariants.{Uncross}
use Rattle.auction_terms.specs.declared.Entry.{Entry}
use Rattle.journal.specs.CallFields.{FitsRecord, HasShortTick, FitsU32, command_fields, enter_ending}
use Rattle.printed_lines.specs.CsvRecord.{limit_field}
use Rattle.journal.specs.CallFields.{number_field, side_field}
use Rattle.journal.specs.declared.day.DayHeader.{DayHeader}
use Rattle.journal.specs.declared.reading.TheConstants.{MAX_JOURNAL_BYTES}
use Rattle.journal.specs.DayRecord.{FitsDay}
use Rattle.journal.specs.JournalPromises.{FitsEntry, FitsJournal, GivesDay, ReadsHistory}
use Rattle.journal.specs.JournalText.{journal_text, recorded_call_by}
use Rattle.journal.specs.PrintedJournal.{call_line, call_lines, day_line, comma_fields}
use Rattle.order_file.specs.File.{within_limit}
use Rattle.auction_terms.specs.declared.Call.{Call}
use Rattle.journal.specs.DayWithCalls.{run_input}
use Rattle.journal.specs.JournalFile.{RecordedDay, journal, journal_of}
use Rattle.journal.proofs.EntryLaws.{run_input-journal}
use Rattle.journal.proofs.ReplayTextLaws.{calls-recorded}
use Rattle.journal.proofs.JournalReadLaws.{reads-back}
use Rattle.journal.proofs.JournalTextLaws.{text-by-lines}
use Rattle.journal.proofs.ReplyLengthLaws.{reply-fits, reply-short}

few-digits : (n : ℕ) → FitsU32 n → length (decimal n) ≤ 10
few-digits n h = length-decimal-le 10 n (omega arith) (omega arith) (omega arith)

side-size : (side : Side) → length (side_field side) ≤ 3
side-size Bid = omega arith
side-size Ask = omega arith

limit-size : (limit : Limit) → HasShortTick limit → length (limit_field limit) ≤ 10
limit-size Market h = omega arith
limit-size (At tick) h = few-digits tick h

number-size : (n : Option ℕ) → IfSome n FitsU32 → length (number_field n) ≤ 10
number-size None h = omega arith
number-size (Some n) h = few-digits n h

ending-size : (restriction : Restriction) (peak : Option ℕ) → IfSome peak FitsU32
    → length (comma_fields (enter_ending restriction peak)) ≤ 19
ending-size Unrestricted None h = omega arith
ending-size Unrestricted (Some n) h = simp length-append (omega (arith, few-digits n h))
ending-size OpeningOnly peak h = simp length-append (omega (arith, number-size peak h))
ending-size ClosingOnly peak h = simp length-append (omega (arith, number-size peak h))

command-size : (command : Command) → FitsRecord command → length (comma_fields (command_fields command)) ≤ 60
command-size (Enter side restriction limit quantity peak) h =
    simp length-append
    (omega (arith, side-size side, few-digits quantity h.1, limit-size limit h.0, ending-size restriction peak h.2))
command-size (Change id limit quantity) h =
    simp length-append (omega (arith, few-digits id h.0, few-digits quantity h.2, limit-size limit h.1))
command-size (Delete id) h = simp length-append (omega (arith, few-digits id h))
command-size (OrderStatus id) h = simp length-append (omega (arith, few-digits id h))
command-size Indicate h = omega arith
command-size (ReadTrade number) h = simp length-append (omega (arith, few-digits number h))
command-size Uncross h = omega arith

line-size : (members : ℕ) (entry : Entry) → members ≤ MAX_MEMBERS → FitsJournal members entry
    → length (call_line entry) ≤ 250
line-size members entry few h =
    let below : entry.member < members = h.member in
    let short : FitsU32 entry.member = omega arith in
    simp length-append
    (omega (
      arith,
      few-digits entry.member short,
      command-size entry.command h.command,
      reply-short entry.reply h.reply,
    ))

lines-size : (members before : ℕ) (entries : List Entry) → members ≤ MAX_MEMBERS
    → AllByRecursion (FitsJournal members) entries
    → length (call_lines before entries) ≤ 250 * length entries
unfolding call_lines
lines-size members before [] few h = omega arith
lines-size members before (e ∷ es) few h =
    let rest = lines-size members (before + 1) es few h.1 in
    omega (arith, length-append (call_line e) (call_lines (before + 1) es), line-size members e few h.0, rest)

range-size : (n : Option ℕ) → IfSome n (λ k. k ≤ MAX_TICK) → length (number_field n) ≤ 10
range-size None h = omega arith
range-size (Some n) h = few-digits n (omega arith)

day-size : (day : DayHeader) → FitsDay day → length (day_line day) ≤ 250
day-size day h =
    let low : day.config.low ≤ MAX_TICK = h.low.1 in
    let high : day.config.high ≤ MAX_TICK = h.high.1 in
    let reference : day.config.reference ≤ MAX_TICK = h.reference.1 in
    let members : day.members ≤ MAX_MEMBERS = h.members.1 in
    let open_orders : day.config.max_open ≤ MAX_OPEN_ORDERS = h.max_open.1 in
    let calls : day.config.max_calls ≤ MAX_CALLS = h.max_calls.1 in
    simp length-append (omega (
      arith,
      few-digits day.config.low (omega arith),
      few-digits day.config.high (omega arith),
      few-digits day.config.reference (omega arith),
      few-digits day.members (omega arith),
      few-digits day.config.max_open (omega arith),
      few-digits day.config.max_calls (omega arith),
      range-size day.config.range h.range,
    ))

-- a full day of the longest lines fits
journal-size : (day : DayHeader) (entries : List Entry) → FitsDay day → AllByRecursion (FitsJournal day.members) entries
    → length entries ≤ day.config.max_calls
    → length (journal_text day entries) ≤ MAX_JOURNAL_BYTES
journal-size day entries h k few =
    let members : day.members ≤ MAX_MEMBERS = h.members.1 in
    let calls : day.config.max_calls ≤ MAX_CALLS = h.max_calls.1 in
    rw (text-by-lines day entries)
    (omega (
      arith,
      length-append (day_line day) (call_lines 0 entries),
      day-size day h,
      lines-size day.members 0 entries members k,
    ))

entries-fit : (members : ℕ) (entries : List Entry) → AllByRecursion (FitsJournal members) entries
    → AllByRecursion (FitsEntry members) (map recorded_call_by entries)
entries-fit members [] h = tt
entries-fit members (e ∷ es) h = (
  record {
    member = h.0.member;
    command = h.0.command;
    text =
        reply-fits e.reply h.0.reply;
  },
  entries-fit members es h.1,
)

recording-count : (entries : List Entry) → length (map recorded_call_by entries) ≡ length entries
recording-count [] = refl
recording-count (e ∷ es) = ap suc (recording-count es)

pub reads-history : ReadsHistory
reads-history day entries h k few =
    reads-back day (map recorded_call_by entries) h (entries-fit day.members entries k)
    (rw (recording-count entries) few) (journal-size day entries h k few)

journal-within : (bytes : List ℕ) (j : RecordedDay) → journal bytes ≡ Ok j
    → (within_limit MAX_JOURNAL_BYTES bytes ≡ Ok bytes) × (journal_of bytes ≡ Ok j)
unfolding journal within_limit
journal-within bytes j e = by_less (nat_lt MAX_JOURNAL_BYTES (length bytes)) refl e
  where
    by_less : (b : Bool) → nat_lt MAX_JOURNAL_BYTES (length bytes) ≡ b → journal bytes ≡ Ok j
        → (within_limit MAX_JOURNAL_BYTES bytes ≡ Ok bytes) × (journal_of bytes ≡ Ok j)
    by_less true t q = cc (rw t at q)
    by_less false t q = (rw t refl, rw t at q)

pub gives-day : GivesDay
unfolding run_input
gives-day asked day entries h k few =
    let read = journal-within (journal_text day entries) _ (reads-history day entries h k few) in
    rw read.0 (run_input-journal asked (journal_text day entries) _ read.1)
    ∙ ap (λ (calls : List Call). Ok (record { day = day; calls = calls })) (calls-recorded entries)
