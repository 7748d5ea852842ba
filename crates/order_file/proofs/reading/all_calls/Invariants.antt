-- Invariants of the loops of `all_calls` (src/reading.rt); rt looks here.
use Rattle.std.proofs.Common.{◌≡◌, ◌-◌, All, length}
use Rattle.order_file.specs.Calls.{IsReady, calls_left}
use Rattle.order_file.specs.File.{IsBelow}
use Rattle.order_file.proofs.CallLaws.{after}
use Rattle.order_file.proofs.reading.all_calls.Given as goal

-- as many calls were read as are kept, each of one of the members; they, and those that are left, are all
abbrev pub invariant-loop-all : goal.invariant-loop-all
invariant-loop-all l = IsReady l.fn.calls.members l.fn.calls.max_calls (length l.all.items) l.calls
    × (after l.all.items (calls_left l.calls) ≡ calls_left l.fn.calls)
    × All (IsBelow l.fn.calls.members) l.all.items

abbrev pub decreases-loop-all : goal.decreases-loop-all
decreases-loop-all l = l.calls.max_calls - l.calls.count
