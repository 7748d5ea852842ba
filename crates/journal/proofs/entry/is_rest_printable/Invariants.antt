-- Invariants of the loop of `is_rest_printable` (src/entry.rt); rt looks here.
use Rattle.std.proofs.Common.{◌≡◌, ◌≤◌, ◌-◌, drop, length}
use Rattle.std.specs.List.{list_all}
use Rattle.journal.specs.EntryRecord.{is_printable}
use Rattle.journal.proofs.entry.is_rest_printable.Given as goal

abbrev pub invariant-rest : goal.invariant-rest
invariant-rest l = record {
  within : l.at ≤ length l.text;
  done : list_all is_printable (drop l.from l.text) ≡ list_all is_printable (drop l.at l.text);
}

abbrev pub decreases-rest : goal.decreases-rest
decreases-rest l = length l.text - l.at
