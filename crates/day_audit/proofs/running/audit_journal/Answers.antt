-- Answers of `audit_journal` (src/running.rt): what the prover left open; rt looks here.
use Rattle.std.proofs.Common.{◌∙◌, Ok, Err, ap}
use Rattle.std.proofs.lemmas.Result.{err_from_is_err_and}
use Rattle.journal_file.specs.Committed.{committed}
use Rattle.day_audit.proofs.FoundLaws.{audit-refused, behind-is, copy-read, copy-said, copy-unread, text-of-copy}
use Rattle.day_audit.proofs.FoundLaws.{whole-audited}
use Rattle.day_audit.proofs.JournalAuditLaws.{audit-begun, audit-done}
use Rattle.day_audit.proofs.running.audit_journal.Goals as goal

pub returns-in-Err-clause-audit : goal.returns-in-Err-clause-audit
returns-in-Err-clause-audit g c =
    let written = g.S.Sink.written c.args.writer.now in
    copy-unread c.args.results _ written written _ c.in-Err.ensures.bytes

pub returns-in_err-current-clause-audit : goal.returns-in_err-current-clause-audit
returns-in_err-current-clause-audit g c =
    let written = g.S.Sink.written c.args.writer.now in
    let findings = c.audit_bytes.new.findings in
    let whole = c.committed_len-whole.ensures.front ∙ ap committed c.as_slice-bytes.ensures.value in
    let p = err_from_is_err_and c.from_residual.result c.from_residual.ensures.1 in
    rw (p.1, p.2)
    (audit-refused c.args.results _ written written c.in-Ok.bytes.items findings c.in_err-current.field-0.0
    (copy-read _ _ c.in-Ok.ensures.bytes)
    (whole-audited c.in-Ok.bytes.items _ findings (Err c.in_err-current.field-0.0) whole
    c.in_err-current.ensures.audited))

pub returns-in_default-clause-audit : goal.returns-in_default-clause-audit
returns-in_default-clause-audit g c =
    let whole = c.committed_len-whole.ensures.front ∙ ap committed c.as_slice-bytes.ensures.value in
    let behind = behind-is _ _ _ c.as_slice-bytes.ensures.value c.committed_len-whole.ensures.count in
    let findings = c.audit_bytes.new.findings in
    let current = c.in_ok-current.current in
    let (j, is, opens, counts, prints) =
    whole-audited c.in-Ok.bytes.items _ findings (Ok current) whole c.in_ok-current.ensures.audited in
    let text = text-of-copy c.args.results findings current j _ _ (prints c.args.results) counts behind in
    audit-begun c.args.results _ _ _ _ (copy-said _ _ j (copy-read _ _ c.in-Ok.ensures.bytes) is) opens
    (rw text at c.in_default.ensures.text)

pub returns-clause-audit : goal.returns-clause-audit
returns-clause-audit g c =
    let whole = c.committed_len-whole.ensures.front ∙ ap committed c.as_slice-bytes.ensures.value in
    let behind = behind-is _ _ _ c.as_slice-bytes.ensures.value c.committed_len-whole.ensures.count in
    let findings = c.audit_bytes.new.findings in
    let current = c.in_ok-current.current in
    let (j, is, opens, counts, prints) =
    whole-audited c.in-Ok.bytes.items _ findings (Ok current) whole c.in_ok-current.ensures.audited in
    let text = text-of-copy c.args.results findings current j _ _ (prints c.args.results) counts behind in
    audit-done c.args.results _ _ _ _ _ (copy-said _ _ j (copy-read _ _ c.in-Ok.ensures.bytes) is) opens
    (counts, behind)
    (rw text at c.in-Ok-write.ensures.text)
