-- A journal that was printed, audited.
use Rattle.std.specs.Prelude.{◌≡◌, ℕ, List, None, Ok, false}
use Rattle.day_audit.specs.JournalCopies.{JournalCopy}
use Rattle.journal.specs.DayRecord.{FitsDay}
use Rattle.journal.specs.DayWithCalls.{DayWithCalls, run_input}
use Rattle.journal.specs.declared.day.DayHeader.{DayHeader}
use Rattle.settings.specs.declared.types.FloorForm.TheVariants as floor
use Rattle.settings.specs.declared.types.Form.TheVariants.{Listing}
use Rattle.settings.specs.declared.types.Listing.TheVariants.{Journal}
use Rattle.settings.specs.declared.types.Settings.{Settings}
use Rattle.settings.specs.Ranges.{IsInRange}
use Rattle.program_runs.specs.AuctionRun.{auction_job}
use Rattle.program_runs.specs.AuditRun.{audit_job}
use Rattle.program_runs.specs.BoardRun.{board_job}
use Rattle.program_runs.specs.Served.{day_of_settings}
use Rattle.program_runs.specs.declared.fault.Finish.{Finish}
use Rattle.program_runs.specs.declared.fault.Finish.TheVariants.{Lawful}

-- settings in their ranges say a day that a journal's first record can hold
abbrev pub SettingsFitDay : Type 0
SettingsFitDay = (s : Settings) → IsInRange s → FitsDay (day_of_settings s)

-- an audit reads a text, its day can be opened, and whatever it writes of it, it finds the day lawful
abbrev pub IsAuditedLawful : List ℕ → Type 0
IsAuditedLawful text =
    (copy : JournalCopy) × ((audit_job false).says text ≡ Ok copy) × ((audit_job false).opening copy ≡ None)
    × ((finish : Finish) (report : List ℕ) → (audit_job false).Text copy finish report → finish ≡ Lawful)

-- the text of a run on an auction that prints a journal, of the input that was given to it
abbrev pub AuctionJournalsAreLawful : Type 0
AuctionJournalsAreLawful = (day : DayHeader) (bytes text : List ℕ) (day_with_calls : DayWithCalls) (finish : Finish)
    → FitsDay day → run_input day bytes ≡ Ok day_with_calls → (auction_job day (Listing Journal)).opening day_with_calls
    ≡ None
    → (auction_job day (Listing Journal)).Text day_with_calls finish text → IsAuditedLawful text

-- and of a run on a board
abbrev pub BoardJournalsAreLawful : Type 0
BoardJournalsAreLawful = (day : DayHeader) (bytes text : List ℕ) (day_with_calls : DayWithCalls) (finish : Finish)
    → FitsDay day → run_input day bytes ≡ Ok day_with_calls
    → (board_job day (floor.Listing Journal)).opening day_with_calls ≡ None
    → (board_job day (floor.Listing Journal)).Text day_with_calls finish text → IsAuditedLawful text
