-- Answers of `BookRecorder::record_before` (src/recording.rt): what the prover left open; rt looks here.
use Rattle.std.proofs.Common.{refl}
use Rattle.day_tables.proofs.BookRecorderLaws.{follows-kept, follows-more, tables-same}
use Rattle.day_tables.proofs.recording.BookRecorder.record_before.Goals as goal

pub returns-then-not-will_uncross-clause-kept : goal.returns-then-not-will_uncross-clause-kept
returns-then-not-will_uncross-clause-kept c = λ entries is.
    follows-more _ _ c.args.auction.now c.args.call.now entries refl
    (λ front are. rw (← c.if-not-will_uncross.ensures) (tables-same _ _ front are)) is

pub returns-clause-kept : goal.returns-clause-kept
returns-clause-kept c = λ entries is.
    follows-kept c.record_table.result _ _ c.args.auction.now c.args.call.now entries c.record_table.ensures.curves
    (λ front are. rw (← c.if-not-will_uncross.ensures) (c.record_table.ensures.tables front are)) is
