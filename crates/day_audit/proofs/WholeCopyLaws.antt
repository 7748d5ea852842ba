-- A copy of a journal that is whole.
use Rattle.std.proofs.Common.{◌≡◌, ◌-◌, ℕ, Bool, List, Ok, true, false, length, nat_lt, refl, arith}
use Rattle.journal.specs.JournalFile.{RecordedDay, journal}
use Rattle.journal.specs.declared.reading.TheConstants.{MAX_JOURNAL_BYTES}
use Rattle.journal_file.specs.Committed.{committed}
use Rattle.order_file.specs.File.{within_limit}
use Rattle.day_audit.specs.JournalCopies.{copy_of, journal_copy}

-- it says what the journal says, and has nothing behind its lines
pub copies-whole : (bytes : List ℕ) (recorded : RecordedDay) → committed bytes ≡ bytes → journal bytes ≡ Ok recorded
    → journal_copy bytes ≡ Ok (record { recorded = recorded; behind = 0 })
unfolding journal journal_copy copy_of within_limit
copies-whole bytes recorded whole is = by_less (nat_lt MAX_JOURNAL_BYTES (length bytes)) refl is
  where
    by_less : (b : Bool) → nat_lt MAX_JOURNAL_BYTES (length bytes) ≡ b → journal bytes ≡ Ok recorded
        → journal_copy bytes ≡ Ok (record { recorded = recorded; behind = 0 })
    by_less true t q = cc (rw t at q)
    by_less false t q =
        let none : length bytes - length bytes ≡ 0 = omega arith in
        rw (t, whole, rw t at q, none) refl
