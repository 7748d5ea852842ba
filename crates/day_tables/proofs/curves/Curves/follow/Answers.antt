-- Answers of `Curves::follow` (src/curves.rt): what the prover left open; rt looks here.
use Rattle.std.proofs.Common.{arith}
use Rattle.std.proofs.lemmas.List.{with_items_is}
use Rattle.day_tables.proofs.TickTableLaws.{curves_from}
use Rattle.day_tables.proofs.curves.Curves.follow.Goals as goal

pub returns-clause-curves : goal.returns-clause-curves
returns-clause-curves c book is =
    let old = c.args.self.now in
    let new = c.draw.new in
    curves_from c.args.ladder.now book _ new.demands new.supplies new.volumes new.surpluses new.best
    c.draw.ensures.sound is
    (with_items_is old.demands new.demands (omega arith)) (with_items_is old.supplies new.supplies (omega arith))
    (with_items_is old.volumes new.volumes (omega arith)) (with_items_is old.surpluses new.surpluses (omega arith))
    (with_items_is old.best new.best (omega arith))
    c.draw.ensures.demands c.draw.ensures.supplies c.draw.ensures.volumes c.draw.ensures.surpluses c.draw.ensures.best
    (omega arith)
