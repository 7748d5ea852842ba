-- A copy of a journal, which may be broken off within a line, or have room behind its lines.
use Rattle.std.specs.Prelude.{ℕ, ◌-◌, List, length, Result, Ok}
use Rattle.auction_terms.specs.Results.{◌>>=◌}
use Rattle.order_file.specs.File.{within_limit}
use Rattle.order_file.specs.declared.fault.FileFault.{FileFault}
use Rattle.journal.specs.JournalFile.{RecordedDay, journal_of}
use Rattle.journal.specs.declared.reading.TheConstants.{MAX_JOURNAL_BYTES}
use Rattle.journal_file.specs.Committed.{committed}

-- what the whole lines of a copy say, and how many bytes are behind them
pub record JournalCopy : Type 0 where
  pub recorded : RecordedDay
  pub behind : ℕ

-- how many bytes are behind its whole lines, which are those up to the last LF before any NUL
abbrev pub behind_whole : List ℕ → ℕ
behind_whole bytes = length bytes - length (committed bytes)

-- what the whole lines of a copy say, or their first fault
unfoldable pub copy_of : List ℕ → Result JournalCopy FileFault
copy_of bytes = journal_of (committed bytes) >>= λ recorded. Ok (record {
  recorded = recorded;
  behind = behind_whole bytes;
})

-- the same of a copy that isn't too long
unfoldable pub journal_copy : List ℕ → Result JournalCopy FileFault
journal_copy bytes = within_limit MAX_JOURNAL_BYTES bytes >>= copy_of
