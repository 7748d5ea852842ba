-- The run of a file that is read block by block.
use Rattle.std.proofs.Common.{◌≡◌, ◌++◌, ◌∷◌, ◌∙◌, [], ℕ, List, length, map, Result, Ok}
use Rattle.std.proofs.Common.{Err, refl, ap, sym, subst, arith, length-append}
use Rattle.std.proofs.lemmas.Grind.{common_steps}
use Rattle.std.proofs.lemmas.List.{length-map, map-append}
use Rattle.auction_terms.specs.declared.Call.{Call}
use Rattle.auction_terms.specs.declared.Config.{Config}
use Rattle.auction_terms.specs.Day.{State, step, state_after}
use Rattle.auction_terms.specs.Auxiliary.RunningAuction.{RunningAuction, opened_auction}
use Rattle.auction_terms.specs.Results.{◌>>=◌}
use Rattle.day_road.specs.Heard.{after_all, heard_from, heard_of}
use Rattle.day_road.specs.Inputs.{silent}
use Rattle.journal.specs.EntryRecord.{RecordedCall, call_part}
use Rattle.order_file.specs.Blocks.{Rows, calls_with_more}
use Rattle.order_file.specs.File.{FailsAsWanted, calls_after}
use Rattle.order_file.specs.declared.fault.FileFault.{FileFault}
use Rattle.order_file.proofs.BlockCallLaws.{fails-alike}
use Rattle.order_file.proofs.CallLaws.{after}
use Rattle.program_runs.specs.declared.recorder.Recorder.{Recorder}
use Rattle.program_runs.specs.RecordedEntries.{RecordsHeard}

-- ---- calls, and then more

states-twice : (config : Config) (state : State) (front calls : List RecordedCall)
    → state_after config state (map call_part (front ++ calls))
    ≡ state_after config (state_after config state (map call_part front)) (map call_part calls)
states-twice config state [] calls = refl
states-twice config state (r ∷ front) calls = states-twice config (step config state r.call).0 front calls

heard-twice : (config : Config) (state : State) (front calls : List RecordedCall)
    → heard_from config state (front ++ calls) ≡ heard_from config state front
    ++ heard_from config (state_after config state (map call_part front)) calls
heard-twice config state [] calls = refl
heard-twice config state (r ∷ front) calls =
    ap (λ hs. heard_of r (step config state r.call).1 ∷ hs)
    (heard-twice config (step config state r.call).0 front calls)

calls-twice : (auction : RunningAuction) (front calls : List RecordedCall) → after_all (after_all auction front) calls
    ≡ after_all auction (front ++ calls)
calls-twice auction front calls = grind (arith, common_steps, states-twice, length-append)

-- no call has come yet
pub no_calls : (auction : RunningAuction) → auction ≡ after_all auction []
no_calls auction = grind (arith, common_steps)

-- a block's calls come after those of the blocks before
pub block-after : (auction now new : RunningAuction) (front calls : List Call)
    → now ≡ after_all auction (map silent front) → new ≡ after_all now (map silent calls)
    → new ≡ after_all auction (map silent (front ++ calls))
block-after auction now new front calls is more =
    more ∙ ap (λ a. after_all a (map silent calls)) is ∙ calls-twice auction (map silent front) (map silent calls)
    ∙ ap (after_all auction) (sym (map-append silent front calls))

pub block-follows : (recorder : Recorder) (auction now new : RunningAuction) (front calls : List Call)
    → now ≡ after_all auction (map silent front)
    → RecordsHeard recorder new (heard_from auction.config auction.state (map silent front)
    ++ heard_from now.config now.state (map silent calls))
    → RecordsHeard recorder new (heard_from auction.config auction.state (map silent (front ++ calls)))
block-follows recorder auction now new front calls is h =
    let same : heard_from auction.config auction.state (map silent front)
    ++ heard_from now.config now.state (map silent calls)
    ≡ heard_from auction.config auction.state (map silent (front ++ calls)) =
    rw is (sym (heard-twice auction.config auction.state (map silent front) (map silent calls))
    ∙ ap (heard_from auction.config auction.state) (sym (map-append silent front calls))) in
    subst (RecordsHeard recorder new) same h

-- they are what the block's records give, after those
pub block-calls : (members : ℕ) (auction now : RunningAuction) (front calls : List Call) (rows : Rows)
    → auction ≡ opened_auction auction.config → now ≡ after_all auction (map silent front)
    → calls_after members now.config.max_calls now.calls rows ≡ Ok calls
    → calls_with_more members auction.config.max_calls front rows ≡ Ok (front ++ calls)
block-calls members auction now front calls rows fresh is wanted =
    let count : now.calls ≡ length front =
    omega (
      arith,
      ap (λ (a : RunningAuction). a.calls) is,
      ap (λ (a : RunningAuction). a.calls) fresh,
      length-map front silent,
    ) in
    let config : now.config ≡ auction.config = ap (λ (a : RunningAuction). a.config) is in
    ap (after front) (rw (count, config) at wanted)

-- a fault of the reading is one of what comes of it
pub fails-then : {X Y : Type 0} (f : FileFault) (r : Result X FileFault) (k : X → Result Y FileFault)
    → FailsAsWanted f r → FailsAsWanted f (r >>= k)
fails-then f r k h = fails-alike f r (r >>= k) (λ (e : r ≡ Err f). rw e refl) h

pub block-fault : (members : ℕ) (auction now : RunningAuction) (front : List Call) (f : FileFault) (rows : Rows)
    → auction ≡ opened_auction auction.config → now ≡ after_all auction (map silent front)
    → FailsAsWanted f (calls_after members now.config.max_calls now.calls rows)
    → FailsAsWanted f (calls_with_more members auction.config.max_calls front rows)
block-fault members auction now front f rows fresh is fails =
    let count : now.calls ≡ length front =
    omega (
      arith,
      ap (λ (a : RunningAuction). a.calls) is,
      ap (λ (a : RunningAuction). a.calls) fresh,
      length-map front silent,
    ) in
    let config : now.config ≡ auction.config = ap (λ (a : RunningAuction). a.config) is in
    fails-then f (calls_after members auction.config.max_calls (length front) rows) (λ calls. Ok (front ++ calls))
    (rw (count, config) at fails)
