-- Answers of `Ladder::best` (src/lib.rt): what the prover left open; rt looks here.
use Rattle.std.proofs.Common.{ap, sym, ◌∙◌}
use Rattle.auction_terms.specs.declared.Side.TheVariants.{Bid, Ask}
use Rattle.tick_ladder.specs.TickLadder.{best_tick, best_limit}
use Rattle.tick_ladder.proofs.BestTickLaws.{highest_found, lowest_found, best_of_book}
use Rattle.tick_ladder.proofs.Ladder.best.Goals as goal

pub returns-in-Bid-clause-value : goal.returns-in-Bid-clause-value
returns-in-Bid-clause-value c =
    c.tick_at.ensures
    ∙ highest_found c.self.inside.low c.self.inside.bids c.last_before.result
    (rw c.places.ensures at c.last_before.ensures)
    ∙ ap (λ v. best_tick v Bid) c.self.view_is
    ∙ ap (best_tick c.args.self.now) (sym c.in-Bid.is)

pub returns-in-Bid-clause-book : goal.returns-in-Bid-clause-book
returns-in-Bid-clause-book c book positive h =
    c.tick_at.ensures
    ∙ highest_found c.self.inside.low c.self.inside.bids c.last_before.result
    (rw c.places.ensures at c.last_before.ensures)
    ∙ ap (λ v. best_tick v Bid) c.self.view_is
    ∙ best_of_book c.args.self.now Bid book positive h
    ∙ ap (best_limit book) (sym c.in-Bid.is)

pub returns-in-Ask-clause-value : goal.returns-in-Ask-clause-value
returns-in-Ask-clause-value c =
    c.tick_at-in-Ask.ensures
    ∙ lowest_found c.self.inside.low c.self.inside.asks c.first_from.result c.first_from.ensures
    ∙ ap (λ v. best_tick v Ask) c.self.view_is
    ∙ ap (best_tick c.args.self.now) (sym c.in-Ask.is)

pub returns-in-Ask-clause-book : goal.returns-in-Ask-clause-book
returns-in-Ask-clause-book c book positive h =
    c.tick_at-in-Ask.ensures
    ∙ lowest_found c.self.inside.low c.self.inside.asks c.first_from.result c.first_from.ensures
    ∙ ap (λ v. best_tick v Ask) c.self.view_is
    ∙ best_of_book c.args.self.now Ask book positive h
    ∙ ap (best_limit book) (sym c.in-Ask.is)
