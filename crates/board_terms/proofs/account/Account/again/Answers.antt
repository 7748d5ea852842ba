-- Answers of `Account::again` (src/account.rt): what the prover left open; rt looks here.
use Rattle.std.proofs.Common.{subst}
use Rattle.board_terms.specs.CallsAndLooks.{IsLook}
use Rattle.board_terms.proofs.PrefixLaws.{prefix_self}
use Rattle.board_terms.proofs.HistoryLaws.{IsLook-longer}
use Rattle.board_terms.specs.BoardViews.{BoardMember}
use Rattle.board_terms.proofs.account.Account.again.Goals as goal

pub returns : goal.returns
returns c =
    let m = c.self.inside in
    let k = c.self.invariant in
    subst (λ (s : BoardMember). IsLook s.board.config s.view s.view m.seen.shown) c.self.view_is
    (IsLook-longer m.config m.number m.calls m.last m.seen.front.log m.seen.front.log m.seen.shown k.0.inside
    (prefix_self m.seen.front.log) k.1)
