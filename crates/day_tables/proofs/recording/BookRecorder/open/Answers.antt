-- Answers of `BookRecorder::open` (src/recording.rt): what the prover left open; rt looks here.
use Rattle.std.proofs.Common.{refl, sym, subst, length, []}
use Rattle.day_tables.specs.BookRecorder.{AreTables}
use Rattle.day_tables.specs.TableCurves.{HasRoomForTicks}
use Rattle.day_tables.proofs.BookTableLaws.{room_back}
use Rattle.day_tables.proofs.BookRecorderLaws.{follows-none}
use Rattle.day_tables.proofs.recording.BookRecorder.open.Goals as goal

pub returns : goal.returns
returns c = λ fresh.
    let auction = c.args.auction.now in
    follows-none _ auction fresh
    (room_back auction auction c.ladder.result.now c.in_ok-curves.curves refl c.ladder.ensures.value
    (subst (λ ticks. HasRoomForTicks (length ticks) c.in_ok-curves.curves) c.bids.ensures.value c.in_ok-curves.ensures))
    (subst (λ tables. AreTables auction.config tables []) (sym c.new.ensures.items) refl)
