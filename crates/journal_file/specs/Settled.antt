-- A journal between two calls.
use Rattle.std.specs.Prelude.{◌≡◌, ◌≤◌, ◌<◌, ◌^◌, ◌+◌, ℕ, List, ◌++◌, length, replicate}
use Rattle.journal_file.specs.Committed.{committed}
use Rattle.journal_file.specs.Device.{IsOnlyOutcome}
use Rattle.journal_file.specs.declared.journal.CommittedLines.{CommittedLines}

-- the file is whole lines and room for more, all of it on the disk
pub record IsSettled {D : Type 0} (seen : D → List ℕ) (may_leave : D → List ℕ → Type 0)
    (journal : CommittedLines D) : Type 0
  where
    pub file : seen journal.device ≡ committed (seen journal.device) ++ replicate journal.room 0
    pub end : journal.end ≡ length (committed (seen journal.device))
    pub durable : IsOnlyOutcome (seen journal.device) (may_leave journal.device)
    pub fits : journal.end + journal.room ≤ 2 ^ 62
    pub some : 0 < journal.spare
    pub spare : journal.spare ≤ 2 ^ 60
