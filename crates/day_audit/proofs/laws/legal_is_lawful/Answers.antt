-- Answers of `legal_is_lawful` (src/laws.rt): what the prover left open; rt looks here.
use Rattle.day_audit.proofs.LegalAuditLaws.{legal-lawful}
use Rattle.day_audit.proofs.laws.legal_is_lawful.Goals as goal

pub returns : goal.returns
returns c = legal-lawful
