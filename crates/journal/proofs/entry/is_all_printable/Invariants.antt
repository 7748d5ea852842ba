-- Invariants of the loop of `is_all_printable` (src/entry.rt); rt looks here.
use Rattle.std.proofs.Common.{◌≡◌, ◌≤◌, ◌-◌, drop, length}
use Rattle.std.specs.List.{list_all}
use Rattle.journal.specs.EntryRecord.{is_printable}
use Rattle.journal.proofs.entry.is_all_printable.Given as goal

abbrev pub invariant-eights : goal.invariant-eights
invariant-eights l = record {
  within : l.at ≤ length l.text;
  done : list_all is_printable l.text ≡ list_all is_printable (drop l.at l.text);
}

abbrev pub decreases-eights : goal.decreases-eights
decreases-eights l = length l.text - l.at
