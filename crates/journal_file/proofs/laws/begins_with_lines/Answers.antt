-- Answers of `begins_with_lines` (src/laws.rt): what the prover left open; rt looks here.
use Rattle.journal_file.proofs.LineTexts.{begins_with_lines}
use Rattle.journal_file.proofs.laws.begins_with_lines.Goals as goal

pub returns : goal.returns
returns c = begins_with_lines
