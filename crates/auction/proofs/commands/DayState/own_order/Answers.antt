-- Answers of `DayState::own_order` (src/commands.rt): what the prover left open; rt looks here.
use Rattle.std.proofs.Common.{rules, ◌≡◌, sym, subst}
use Rattle.std.specs.Prelude.{IfOk}
use Rattle.auction_terms.specs.declared.Refusal.TheVariants.{UnknownOrder}
use Rattle.auction_terms.specs.Day.{own_order}
use Rattle.auction.specs.OpenOrders.{IsOpenIn}
use Rattle.auction.proofs.OwnOrderLaws.{own_is_open}
use Rattle.auction.proofs.commands.DayState.own_order.Goals as goal

pub returns-clause-open : goal.returns-clause-open
returns-clause-open c =
    let book = c.args.self.now.state.book in
    let same : c.ok_or.result ≡ own_order c.args.self.now.state c.args.member c.args.id = search rules in
    subst (λ r. IfOk r (IsOpenIn book)) (sym same) (own_is_open c.args.member c.args.id book UnknownOrder)
