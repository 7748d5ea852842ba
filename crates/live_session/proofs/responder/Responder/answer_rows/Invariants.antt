-- Invariants of the loops of `Responder::answer_rows` (src/responder.rt); rt looks here.
-- Of `Responder::answer_rows`: what its loop keeps, in the form that `rt` wants.
use Rattle.std.proofs.Common.{◌≡◌, List, ℕ}
use Rattle.auction_terms.specs.declared.Entry.{Entry}
use Rattle.order_file.specs.Rows.{IsRecordReader, rows_left}
use Rattle.live_session.specs.Answered.{Answered, after_records}
use Rattle.live_session.specs.Gathered.{Gathers}
use Rattle.live_session.specs.declared.terms.SessionTerms.{SessionTerms}
use Rattle.live_session.proofs.responder.Responder.answer_rows.Given as goal

-- the records so far are answered, and they and those that are left are all
abbrev pub invariant-rows : goal.invariant-rows
invariant-rows l = record {
  stands : IsRecordReader l.records.rows;
  answers : (terms : SessionTerms) (so_far : Answered) (given : List ℕ) (committed : List Entry)
      → Gathers l.fn.self terms so_far given committed → (now : Answered) × Gathers l.self terms now given committed
      × (after_records terms now (rows_left l.records.rows) ≡ after_records terms so_far (rows_left l.fn.records.rows));
}
