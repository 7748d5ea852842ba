-- Invariants of the loop of `are_lines_short` (src/overlong.rt); rt looks here.
use Rattle.std.proofs.Common.{length}
use Rattle.csv.specs.Reading.{default_config, records}
use Rattle.order_file.specs.Overlong.{HaveFewFields}
use Rattle.order_file.proofs.WholeLineLaws.{NoQuote}
use Rattle.order_file.proofs.overlong.are_lines_short.Given as goal

-- the lines so far are short
abbrev pub invariant-lines : goal.invariant-lines
invariant-lines l = record {
  free : NoQuote l.rest;
  few : HaveFewFields (records default_config l.rest) → HaveFewFields (records default_config l.text);
}

abbrev pub decreases-lines : goal.decreases-lines
decreases-lines l = length l.rest
