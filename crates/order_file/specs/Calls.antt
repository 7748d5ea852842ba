-- The calls that a cursor over records has left.
use Rattle.std.specs.Prelude.{◌≡◌, ℕ, ◌+◌, ◌≤◌, List, [], ◌∷◌, Option, Some, None, Result, Ok, Err}
use Rattle.auction_terms.specs.declared.Call.{Call}
use Rattle.auction_terms.specs.Results.{◌>>=◌}
use Rattle.order_file.specs.File.{FailsAsWanted, calls_after}
use Rattle.order_file.specs.Rows.{IsRecordReader, rows_left}
use Rattle.order_file.specs.declared.calls.Calls.{Calls}
use Rattle.order_file.specs.declared.fault.FileFault.{FileFault}

-- the calls of the records that are left, or their first fault
abbrev pub calls_left : Calls → Result (List Call) FileFault
calls_left calls = calls_after calls.members calls.max_calls calls.count (rows_left calls.records.rows)

-- calls of `members` members can be read, `max_calls` in all at most, of which `count` were
pub record IsReady (members max_calls count : ℕ) (calls : Calls) : Type 0 where
  pub rows : IsRecordReader calls.records.rows
  pub members_are : calls.members ≡ members
  pub most : calls.max_calls ≡ max_calls
  pub read : calls.count ≡ count
  pub room : count ≤ max_calls

-- A call was the first that was left, and the others are left; or none was left; or the first record had this fault.
abbrev pub GivesNextCall : Calls → Calls → Result (Option Call) FileFault → Type 0
GivesNextCall old new (Ok (Some call)) =
    IsReady old.members old.max_calls (old.count + 1) new
    × (calls_left old ≡ (calls_left new >>= λ rest. Ok (call ∷ rest)))
GivesNextCall old new (Ok None) = calls_left old ≡ Ok []
GivesNextCall old new (Err fault) = FailsAsWanted fault (calls_left old)
