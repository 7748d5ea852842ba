-- Answers of `legal_exactly` (src/laws.rt): what the prover left open; rt looks here.
use Rattle.day_audit.proofs.LegalAuditLaws.{legal-exactly}
use Rattle.day_audit.proofs.laws.legal_exactly.Goals as goal

pub returns : goal.returns
returns c = legal-exactly
