-- Answers of `Findings::new` (src/findings.rt): what the prover left open; rt looks here.
use Rattle.std.proofs.Common.{ap, arith}
use Rattle.day_audit.specs.AuditText.{differences}
use Rattle.day_audit.specs.ResultsText.{uncross_lines}
use Rattle.day_audit.specs.declared.counts.Counts.{Counts}
use Rattle.day_audit.proofs.findings.Findings.new.Goals as goal

pub returns : goal.returns
unfolding differences uncross_lines
returns c = record {
  counts = c.none.ensures;
  entries = ap (λ (x : Counts). x.entries) c.none.ensures;
  compared = rw c.none.ensures (omega arith);
  unlawful = rw c.none.ensures (omega arith);
  lines = c.new.ensures;
  results = c.new-2.ensures;
}
