-- Invariants of the loops of `record_blocks` (src/blocks.rt); rt looks here.
use Rattle.std.proofs.Common.{◌≡◌, ◌≤◌, ℕ, List, map, Option, Ok}
use Rattle.std.specs.Prelude.{IfSome}
use Rattle.auction_terms.specs.declared.Call.{Call}
use Rattle.day_road.specs.Heard.{after_all, heard_from}
use Rattle.day_road.specs.Inputs.{silent}
use Rattle.order_file.specs.Blocks.{OpensBlock, turns_left}
use Rattle.order_file.specs.declared.reading.TheConstants.{MAX_BYTES}
use Rattle.order_file.proofs.BlockCallLaws.{CarriesCalls}
use Rattle.program_runs.specs.RecordedEntries.{RecordsHeard, form_of_recorder}
use Rattle.program_runs.proofs.blocks.record_blocks.Given as goal

-- The calls of the blocks so far came to the auction and are recorded; they, and those of the records to come, are
-- those of the file; no read has failed.
abbrev pub invariant-turns : goal.invariant-turns
invariant-turns g l = record {
  steady : g.R.Source.failures l.reader ≡ g.R.Source.failures l.fn.reader;
  form : form_of_recorder l.recorder ≡ form_of_recorder l.fn.recorder;
  room : l.auction.calls ≤ l.fn.auction.config.max_calls;
  calls : (front : List Call) × (l.auction ≡ after_all l.fn.auction (map silent front))
      × ((text : Option (List ℕ))
      → IfSome text (OpensBlock (Ok l.fn.blocks) MAX_BYTES (g.R.Source.left l.fn.reader))
      → CarriesCalls text (g.R.Source.left l.reader) l.members l.fn.auction.config.max_calls front l.blocks)
      × RecordsHeard l.recorder l.auction (heard_from l.fn.auction.config l.fn.auction.state (map silent front));
}

abbrev pub decreases-turns : goal.decreases-turns
decreases-turns g l = turns_left l.blocks
