-- Answers of `cross_in` (src/walks.rt): what the prover left open; rt looks here.
use Rattle.std.proofs.Common.{arith}
use Rattle.tick_ladder.proofs.BeforeLaws.{before_most}
use Rattle.tick_ladder.proofs.SliceLaws.{sum_slice, crossing_is}
use Rattle.tick_ladder.proofs.walks.cross_in.Goals as goal

pub meet-met-requires-clause-enough : goal.meet-met-requires-clause-enough
meet-met-requires-clause-enough c =
    omega (
      arith,
      sum_slice c.args.bids.now c.args.start c.args.end (omega arith) c.requires.end,
      before_most c.args.bids.now c.args.end,
      c.requires.enough,
    )

pub meet-met-requires-clause-fits : goal.meet-met-requires-clause-fits
meet-met-requires-clause-fits c =
    omega (
      arith,
      sum_slice c.args.asks.now c.args.start c.args.end (omega arith) (omega arith),
      before_most c.args.asks.now c.args.end,
      c.requires.fits,
    )

pub returns : goal.returns
returns c =
    crossing_is c.args.bids.now c.args.asks.now c.args.start c.args.end c.args.demand c.args.below c.meet-met.result
    c.requires.order c.requires.end c.requires.same c.meet-met.ensures
