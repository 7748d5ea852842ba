-- Answers of `write_fault` (src/fault_lines.rt): what the prover left open; rt looks here.
use Rattle.program_runs.proofs.fault_lines.write_fault.Goals as goal

pub returns-clause-line : goal.returns-clause-line
returns-clause-line g c = (
  c.write_all.result,
  rw (c.as_slice.ensures, c.put.ensures.text, c.put_fault.ensures.text, c.new-page.ensures) at c.write_all.ensures,
)
