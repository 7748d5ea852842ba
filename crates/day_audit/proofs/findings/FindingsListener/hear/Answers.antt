-- Answers of `hear` of `Findings` (src/findings.rt): what the prover left open; rt looks here.
use Rattle.std.proofs.Common.{◌≡◌, ◌+◌, ◌∙◌, ap, arith}
use Rattle.std.proofs.lemmas.List.{length_push}
use Rattle.day_road.specs.Heard.{heard_of, recording_of}
use Rattle.day_audit.proofs.FoundLaws.{found-more, reply-short}
use Rattle.day_audit.proofs.findings.FindingsListener.hear.Goals as goal

pub record_finding-requires : goal.record_finding-requires
record_finding-requires c = reply-short _ c.requires

pub returns-clause-heard : goal.returns-clause-heard
returns-clause-heard c = λ auction heard few is found.
    let (finds, count) = found in
    let entries = finds.entries in
    let number : c.saturating_add-number.result ≡ c.args.self.now.counts.entries + 1 =
    omega (arith, entries, count, few, c.saturating_add-number.ensures) in
    let counted =
    c.with-self.ensures (omega (arith, entries, count, few)) (rw entries finds.compared) (rw entries finds.unlawful) in
    let h = heard_of (recording_of c.args._call.now c.args.text.now) c.args.reply.now in
    rw (← is) (
      found-more c.args.self.now _ heard h _ _ finds number c.finding_of-finding.ensures counted
          c.in_ok-record_finding.ensures c.in_ok-record_uncross.ensures,
      length_push heard h ∙ ap (λ n. n + 1) count,
    )
