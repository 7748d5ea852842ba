-- Answers of `Auction::open` (src/lib.rt): what the prover left open; rt looks here.
-- No call was had.
use Rattle.std.proofs.Common.{sym, ap, ◌∙◌, arith}
use Rattle.auction.specs.AuctionState.{AuctionState}
use Rattle.auction.proofs.ConfigFaultLaws.{terms_within}
use Rattle.auction.proofs.Auction.open.Goals as goal

pub invariant_of-result : goal.invariant_of-result
invariant_of-result c =
    let within = terms_within c.args.config (sym c.config_fault.ensures ∙ c.in_default.is) in
    let new = c.in-Ok.ensures in (
      record {
        stamps = omega (arith, ap (λ (a : AuctionState). a.stamps) new);
        within = omega arith;
        few = omega (arith, within.calls, ap (λ (a : AuctionState). a.config.max_calls) new);
      },
      (
        omega (
          arith,
          within.low,
          ap (λ (a : AuctionState). a.config.low) new,
          ap (λ (a : AuctionState). a.config.reference) new,
        ),
        omega (
          arith,
          within.high,
          ap (λ (a : AuctionState). a.config.reference) new,
          ap (λ (a : AuctionState). a.config.high) new,
        ),
      ),
    )
