-- A journal that was printed of a run, read by an audit.
use Rattle.std.proofs.Common.{◌≡◌, ◌==◌, ◌<◌, ℕ, Bool, true, false, List, [], ◌∷◌, None, map, refl, rules, subst, sym}
use Rattle.std.specs.List.{AllByRecursion}
use Rattle.auction.specs.ConfigFault.{open_fault}
use Rattle.auction_terms.specs.declared.Call.{Call}
use Rattle.auction_terms.specs.declared.Command.{Command}
use Rattle.auction_terms.specs.declared.Entry.{Entry}
use Rattle.auction_terms.specs.Day.{IsLegal, calls_of}
use Rattle.day_road.specs.ReplyPairs.{pairs_in}
use Rattle.day_audit.specs.AuditCounts.{counts_of}
use Rattle.day_audit.specs.ResultsText.{copy_text}
use Rattle.day_audit.specs.AuditPromises.{IsAuditedLegal}
use Rattle.day_audit.proofs.WholeCopyLaws.{copies-whole}
use Rattle.day_audit.proofs.LegalAuditLaws.{printed-legal}
use Rattle.journal.specs.CallFields.{FitsRecord}
use Rattle.journal.specs.DayRecord.{FitsDay}
use Rattle.journal.specs.JournalFile.{RecordedDay, recorded_day}
use Rattle.journal.specs.JournalPromises.{FitsCall, FitsJournal}
use Rattle.journal.specs.JournalText.{journal_text, recorded_call_by}
use Rattle.journal.specs.WideReplies.{AreWide}
use Rattle.journal.specs.declared.day.DayHeader.{DayHeader}
use Rattle.journal.proofs.RunInputFitLaws.{run_input-fits}
use Rattle.journal.proofs.JournalSizeLaws.{reads-history}
use Rattle.live_session.proofs.JournaledPromiseLaws.{are-whole}
use Rattle.program_runs.specs.AuditRun.{finish_of}
use Rattle.program_runs.specs.BoardRun.{commands_of}
use Rattle.program_runs.specs.PrintedJournals.{AuctionJournalsAreLawful, BoardJournalsAreLawful, IsAuditedLawful}
use Rattle.program_runs.specs.PrintedJournals.{SettingsFitDay}
use Rattle.program_runs.specs.Printed.{history_of}
use Rattle.program_runs.specs.declared.fault.Finish.{Finish}
use Rattle.program_runs.specs.declared.fault.Finish.TheVariants.{Lawful}
use Rattle.program_runs.proofs.EntriesLaws.{history-calls, history_legal}
use Rattle.program_runs.proofs.OpeningLaws.{opens_auction}

-- ---- each call of a history is one of the input

-- a command of a member that a record can hold
abbrev FitsCommand : ℕ → ℕ → Command → Type 0
FitsCommand members member command = (member < members) × FitsRecord command

commands-fit : (members member : ℕ) (calls : List Call) → AllByRecursion (FitsCall members) calls
    → AllByRecursion (FitsCommand members member) (commands_of member calls)
commands-fit members member [] fits = tt
commands-fit members member (call ∷ calls) fits =
    by_member (call.member == member) refl (commands-fit members member calls fits.1)
  where
    by_member : (b : Bool) → (call.member == member) ≡ b
        → AllByRecursion (FitsCommand members member) (commands_of member calls)
        → AllByRecursion (FitsCommand members member) (commands_of member (call ∷ calls))
    by_member true t rest =
        let same : call.member ≡ member = search rules in
        rw t ((subst (λ (m : ℕ). m < members) same fits.0.0, fits.0.1), rest)
    by_member false t rest = rw t rest

calls-fit : (members : ℕ) (calls : List Call)
    → ((member : ℕ) → AllByRecursion (FitsCommand members member) (commands_of member calls))
    → AllByRecursion (FitsCall members) calls
calls-fit members [] fits = tt
calls-fit members (call ∷ calls) fits = (
  first (call.member == call.member) refl (fits call.member),
  calls-fit members calls (λ member. rest member (call.member == member) refl (fits member)),
)
  where
    first : (b : Bool) → (call.member == call.member) ≡ b
        → AllByRecursion (FitsCommand members call.member) (commands_of call.member (call ∷ calls))
        → FitsCall members call
    first true t all = let put = rw t at all in put.0
    first false t all = absurd (search rules)

    rest : (member : ℕ) (b : Bool) → (call.member == member) ≡ b
        → AllByRecursion (FitsCommand members member) (commands_of member (call ∷ calls))
        → AllByRecursion (FitsCommand members member) (commands_of member calls)
    rest member true t all = let put = rw t at all in put.1
    rest member false t all = rw t at all

same-fit : (members : ℕ) (calls others : List Call)
    → ((member : ℕ) → commands_of member others ≡ commands_of member calls)
    → AllByRecursion (FitsCall members) calls → AllByRecursion (FitsCall members) others
same-fit members calls others same fits =
    calls-fit members others (λ member. subst (λ (cs : List Command). AllByRecursion (FitsCommand members member) cs)
    (sym (same member)) (commands-fit members member calls fits))

-- ---- an entry for each call, with a reply that a journal says

entries-fit : (members : ℕ) (entries : List Entry) → AllByRecursion (FitsCall members) (calls_of entries)
    → AreWide entries → AllByRecursion (FitsJournal members) entries
entries-fit members [] fits wide = tt
entries-fit members (entry ∷ entries) fits wide =
    (record { member = fits.0.0; command = fits.0.1; reply = wide.0 }, entries-fit members entries fits.1 wide.1)

-- ---- and an audit

audited : (day : DayHeader) (entries : List Entry) (text : List ℕ) → FitsDay day → open_fault day.config ≡ None
    → IsLegal day.config entries
    → AllByRecursion (FitsJournal day.members) entries → text ≡ journal_text day entries → IsAuditedLawful text
audited day entries text fits opens legal all is =
    let read = reads-history day entries fits all legal.few in
    let (j, told, well) = printed-legal day entries fits all legal in
    let same : j ≡ recorded_day day (map recorded_call_by entries) = cc in
    let lines = are-whole day entries fits all in
    subst IsAuditedLawful (sym is) (
      record { recorded = recorded_day day (map recorded_call_by entries); behind = 0 },
      copies-whole (journal_text day entries) _ lines read,
      opens,
      found (subst (λ (k : RecordedDay). IsAuditedLegal (pairs_in k)) same well),
    )
  where
    found : IsAuditedLegal (pairs_in (recorded_day day (map recorded_call_by entries)))
        → (finish : Finish) (report : List ℕ)
        → (finish ≡ finish_of (counts_of (pairs_in (recorded_day day (map recorded_call_by
        entries)))).first_unlawful 0)
        × (report ≡ copy_text false (record { recorded = recorded_day day (map recorded_call_by entries); behind = 0 }))
        → finish ≡ Lawful
    found none finish report is = rw none at is.0

-- ---- the two ways to run an input

pub auction-passes : AuctionJournalsAreLawful
auction-passes day bytes text g finish fits says opens (done, (is, wide)) =
    let run_input_fits = run_input-fits day bytes g fits says in
    let calls =
    subst (λ (cs : List Call). AllByRecursion (FitsCall g.day.members) cs)
    (sym (history-calls g.day.config g.calls)) run_input_fits.calls in
    audited g.day (history_of g.day.config g.calls) text run_input_fits.day opens
    (history_legal g.day.config g.calls run_input_fits.few)
    (entries-fit g.day.members (history_of g.day.config g.calls) calls wide) is

pub board-passes : BoardJournalsAreLawful
board-passes day bytes text g finish fits says opens (done, (entries, played, is, wide)) =
    let run_input_fits = run_input-fits day bytes g fits says in
    let calls = same-fit g.day.members g.calls (calls_of entries) played.commands run_input_fits.calls in
    audited g.day entries text run_input_fits.day (opens_auction g.day.config g.day.members opens) played.legal
    (entries-fit g.day.members entries calls wide) is

pub settings-fit : SettingsFitDay
settings-fit s fits = record {
  low = fits.low;
  high = fits.high;
  reference = fits.reference;
  members = fits.members;
  max_open = fits.max_open;
  max_calls = fits.max_calls;
  range = fits.range;
}
