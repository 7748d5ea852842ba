-- Answers of `printed_is_legal` (src/laws.rt): what the prover left open; rt looks here.
use Rattle.day_audit.proofs.LegalAuditLaws.{printed-legal}
use Rattle.day_audit.proofs.laws.printed_is_legal.Goals as goal

pub returns : goal.returns
returns c = printed-legal
