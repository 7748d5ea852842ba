-- Invariants of the loops of `run_all` (src/tests/torn_journals.rt); rt looks here.
use Rattle.journal_file.specs.Settled.{IsSettled}
use Rattle.journal_file.specs.Events.{left_by, seen_of}
use Rattle.acceptance.proofs.tests.torn_journals.run_all.Given as goal

abbrev pub invariant-loop-batch : goal.invariant-loop-batch
invariant-loop-batch l =
    IsSettled (λ d. seen_of d.file.calls.events) (λ d c. left_by d.file.calls.events c) l.journal
