-- Invariants of the loops of `put_fields` (src/plain.rt); rt looks here.
use Rattle.std.proofs.Common.{◌≡◌, ◌++◌, [], length}
use Rattle.csv.specs.Records.{fields_of, partial_of}
use Rattle.live_session.specs.UnquotedLines.{fields_on}
use Rattle.live_session.proofs.plain.put_fields.Given as goal

-- the fields so far, and those of the bytes that are left, are all
abbrev pub invariant-fields : goal.invariant-fields
invariant-fields l = record {
  fields : fields_of l.row ++ fields_on [] l.rest ≡ fields_on [] l.fn.line;
  partial : partial_of l.row ≡ [];
}

abbrev pub decreases-fields : goal.decreases-fields
decreases-fields l = length l.rest
