-- Answers of `first_in` (src/walks.rt): what the prover left open; rt looks here.
use Rattle.tick_ladder.proofs.SliceLaws.{first_is, none_is}
use Rattle.tick_ladder.proofs.walks.first_in.Goals as goal

pub returns-in-Some : goal.returns-in-Some
returns-in-Some c =
    first_is c.args.places.now c.args.start c.args.end c.requires.order c.requires.end c.in-Some.place c.in-Some.ensures

pub returns-in-None : goal.returns-in-None
returns-in-None c = none_is c.args.places.now c.args.start c.args.end c.requires.order c.requires.end c.in-None.ensures
