-- Answers of `BookRecorder::close` (src/recording.rt): what the prover left open; rt looks here.
use Rattle.day_tables.proofs.BookRecorderLaws.{holds-kept}
use Rattle.day_tables.proofs.recording.BookRecorder.close.Goals as goal

pub returns : goal.returns
returns c =
    λ entries is. holds-kept c.record_table.result _ _ c.args.auction.now entries c.record_table.ensures.curves
    c.record_table.ensures.tables is
