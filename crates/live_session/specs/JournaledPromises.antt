-- What holds of journals that are kept.
use Rattle.std.specs.Prelude.{◌≡◌, ℕ, List, ◌++◌, take, Option, Result, Ok}
use Rattle.std.specs.List.{AllByRecursion}
use Rattle.auction_terms.specs.declared.Entry.{Entry}
use Rattle.auction_terms.specs.Auxiliary.RunningAuction.{RunningAuction, auction_after, opened_auction}
use Rattle.auction_terms.specs.Day.{IsLegal, calls_of}
use Rattle.journal.specs.DayRecord.{FitsDay}
use Rattle.journal.specs.JournalFile.{RecordedDay, journal_of}
use Rattle.journal.specs.JournalPromises.{FitsJournal}
use Rattle.journal.specs.JournalText.{journal_text}
use Rattle.journal.specs.PrintedJournal.{call_lines}
use Rattle.journal.specs.declared.day.DayHeader.{DayHeader}
use Rattle.journal_file.specs.Committed.{IsBegun, committed}
use Rattle.journal_file.specs.Device.{LeavesOnly}
use Rattle.journal_file.specs.declared.journal.CommittedLines.{CommittedLines}
use Rattle.live_session.specs.declared.fault.Ending.{Ending}
use Rattle.live_session.specs.declared.fault.LiveFault.{LiveFault}
use Rattle.live_session.specs.declared.terms.SessionTerms.{SessionTerms}
use Rattle.journal_file.specs.declared.device.Device.{Ghosts}
use Rattle.live_session.specs.Begun.{HasBegun, IsStored, opening_lines}
use Rattle.live_session.specs.declared.begin_fault.CutOff.{CutOff}
use Rattle.live_session.specs.JournaledRun.{SessionEnds, RunsJournaled}
use Rattle.live_session.specs.Replayed.{replayed}

-- What is printed as a journal is whole lines.
abbrev pub AreWholeLines : Type 0
AreWholeLines =
    (day : DayHeader) (entries : List Entry) → FitsDay day → AllByRecursion (FitsJournal day.members) entries
    → committed (journal_text day entries) ≡ journal_text day entries

-- Of a session that goes on with a journal a crash leaves the journal of its first entries, after those from before.
abbrev pub LeavesFirstEntries : Type 0
LeavesFirstEntries =
    (day : DayHeader) (before entries : List Entry) (file : List ℕ) → FitsDay day
    → AllByRecursion (FitsJournal day.members) entries → IsBegun (journal_text day before) (call_lines 0 entries) file
    → (count : ℕ) × (committed file ≡ journal_text day (before ++ take count entries))

-- And a session goes on with the journal of a lawful history: it says this day, each reply is found lawful, and the
-- auction is then where the history leaves it.
pub record IsGoneOnWith (day : DayHeader) (entries : List Entry) : Type 0 where
  pub recording : RecordedDay
  pub read : journal_of (journal_text day entries) ≡ Ok recording
  pub day_is : recording.day ≡ day
  pub replays : replayed 0 recording.texts (opened_auction day.config) recording.calls
      ≡ Ok (auction_after day.config (calls_of entries))

abbrev pub LawfulIsGoneOnWith : Type 0
LawfulIsGoneOnWith =
    (day : DayHeader) (entries : List Entry) → FitsDay day → AllByRecursion (FitsJournal day.members) entries
    → IsLegal day.config entries → IsGoneOnWith day entries

-- From the opening of its file on, if what was read was on the disk, a crash at any moment of a session leaves what the
-- file had, and the first of these lines and of those of its entries, those of a failed commit at last.
abbrev pub LeavesFromOpening : {D : Type 0} → Ghosts D → Type 0
LeavesFromOpening {D = D} d =
    (day : DayHeader) (opened : D) (begun ended : CommittedLines D) (auction : RunningAuction) (cut : Option CutOff)
    (terms : SessionTerms) (first last : List ℕ → ℕ → SessionEnds) (result : Result Ending LiveFault)
    → HasBegun d day opened begun auction cut
    → (ran : RunsJournaled d.seen d.may_leave d.moment d.left_since d.faults terms auction begun ended
    first last result)
    → IsStored d opened
    → LeavesOnly d.moment d.left_since opened ended.device
    (IsBegun (committed (d.seen opened)) (opening_lines day (committed (d.seen opened)) ++ (ran.entries ++ ran.lost)))
