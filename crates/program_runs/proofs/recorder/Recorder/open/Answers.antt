-- Answers of `Recorder::open` (src/recorder.rt): what the prover left open; rt looks here.
use Rattle.std.proofs.Common.{[], ℕ, List, subst, sym}
use Rattle.journal.specs.KeptLines.{HasEntryLines}
use Rattle.journal.proofs.KeptLineLaws.{holds-none}
use Rattle.program_runs.proofs.recorder.Recorder.open.Goals as goal

pub returns-in-Listing-Journal-clause-none : goal.returns-in-Listing-Journal-clause-none
returns-in-Listing-Journal-clause-none c =
    λ fresh. subst (λ (text : List ℕ). HasEntryLines text []) (sym c.new-in-Listing-Journal.ensures) holds-none

pub returns-in-Listing-Trades-clause-none : goal.returns-in-Listing-Trades-clause-none
returns-in-Listing-Trades-clause-none c = c.new-in-Listing-Trades.ensures c.args.auction.now
