-- Invariants of the loops of `calls_of_entries` (src/run_input.rt); rt looks here.
use Rattle.std.proofs.Common.{◌≡◌, ◌-◌, All, List, length, map}
use Rattle.journal.specs.EntryRecord.{RecordedCall, call_part}
use Rattle.journal.specs.JournalEntries.{CanReadEntries, entries_left}
use Rattle.order_file.specs.File.{IsBelow}
use Rattle.journal.proofs.EntryLaws.{behind}
use Rattle.journal.proofs.run_input.calls_of_entries.Given as goal

-- The calls so far are those of the entries that were read; these, and those that are left, are the journal's.
abbrev pub invariant-turns : goal.invariant-turns
invariant-turns l = record {
  ready : CanReadEntries l.day (length l.calls.items) l.entries;
  below : All (IsBelow l.day.members) l.calls.items;
  calls : (front : List RecordedCall) × (l.calls.items ≡ map call_part front)
      × (behind front (entries_left l.entries) ≡ entries_left l.fn.entries);
}

abbrev pub decreases-turns : goal.decreases-turns
decreases-turns l = l.day.config.max_calls - length l.calls.items
