-- Answers of `call_of` (src/entry.rt): what the prover left open; rt looks here.
use Rattle.std.proofs.Common.{◌∙◌, sym}
use Rattle.journal.proofs.EntryLaws.{call-bad, call-good, fails-record, head-bad}
use Rattle.journal.proofs.entry.call_of.Goals as goal

pub returns-in-Err-clause-call : goal.returns-in-Err-clause-call
returns-in-Err-clause-call c = rw c.in_record.ensures (fails-record _ _ _ (head-bad _ _ _ _ c.in-Err.ensures.head))

pub returns-in-Ok-call_with-clause-call : goal.returns-in-Ok-call_with-clause-call
returns-in-Ok-call_with-clause-call c =
    call-good _ _ _ _ _ _ _ _ c.in-Ok.ensures.head c.in_ok-fine.ensures.row c.in_ok-fine.ensures.fine
    c.len-place.ensures c.in-Ok-call_with.ensures.call

pub returns-in-Ok-call_with-clause-fine : goal.returns-in-Ok-call_with-clause-fine
returns-in-Ok-call_with-clause-fine c = sym c.in_ok-fine.ensures.fine ∙ c.in-Ok-call_with.ensures.fine

pub returns-in-Err-call_with-clause-call : goal.returns-in-Err-call_with-clause-call
returns-in-Err-call_with-clause-call c =
    rw c.in_record-in-Err-call_with.ensures
    (fails-record _ _ _
    (call-bad _ _ _ _ _ _ _ _ c.in-Ok.ensures.head c.in_ok-fine.ensures.row c.in_ok-fine.ensures.fine
    c.len-place.ensures c.in-Err-call_with.ensures.call))
