-- A session that goes on with a journal's file.
use Rattle.std.specs.Prelude.{◌≡◌, ◌≢◌, ◌⊎◌, ◌-◌, [], unwrap_or, Result, Ok, Err}
use Rattle.csv.specs.Records.{field_at}
use Rattle.auction_terms.specs.Auxiliary.RunningAuction.{RunningAuction, opened_auction}
use Rattle.order_file.specs.declared.fault.FileFault.{FileFault}
use Rattle.order_file.specs.declared.fault.FileFault.TheVariants.{NoMemory}
use Rattle.journal.specs.JournalFile.{RecordedDay}
use Rattle.journal.specs.declared.day.DayHeader.{DayHeader}
use Rattle.live_session.specs.Replayed.{replayed}
use Rattle.live_session.specs.declared.begin_fault.ResumeFault.{ResumeFault}
use Rattle.live_session.specs.declared.begin_fault.ResumeFault.TheVariants.{AnotherDay, File, Unlawful}

-- With the entries of this recorded day: it has to be the day of the session, and each recorded reply the lawful one.
abbrev pub IsResumedAfter : DayHeader → RecordedDay → Result RunningAuction ResumeFault → Type 0
IsResumedAfter day j (Ok auction) =
    (j.day ≡ day) × (replayed 0 j.texts (opened_auction day.config) j.calls ≡ Ok auction)
IsResumedAfter day j (Err (AnotherDay other)) = (other ≡ j.day) × (j.day ≢ day)
IsResumedAfter day j (Err (Unlawful entry recorded)) = (j.day ≡ day)
    × (replayed 0 j.texts (opened_auction day.config) j.calls ≡ Err entry)
    × (recorded.items ≡ unwrap_or (field_at j.texts (entry.number - 1)) [])
IsResumedAfter day j (Err (File f)) = f ≡ NoMemory

-- with what lines say as a journal
abbrev pub IsResumedFrom : DayHeader → Result RecordedDay FileFault → Result RunningAuction ResumeFault → Type 0
IsResumedFrom day (Ok j) result = IsResumedAfter day j result
IsResumedFrom day (Err f) (Err (File g)) = (g ≡ f) ⊎ (g ≡ NoMemory)
IsResumedFrom day (Err f) (Err (AnotherDay other)) = ⊥
IsResumedFrom day (Err f) (Err (Unlawful entry recorded)) = ⊥
IsResumedFrom day (Err f) (Ok auction) = ⊥
