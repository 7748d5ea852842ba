-- Answers of `Account::catch_up` (src/account.rt): what the prover left open; rt looks here.
use Rattle.std.proofs.Common.{rules, sym, subst}
use mathlib.Core.List.{IsPrefix}
use Rattle.board_terms.specs.CallsAndLooks.{ShowsAfter}
use Rattle.board_terms.proofs.PrefixLaws.{prefix_self}
use Rattle.board_terms.proofs.HistoryLaws.{IsLook-longer}
use Rattle.board_terms.specs.BoardViews.{BoardMember}
use Rattle.board_terms.proofs.account.Account.catch_up.Goals.{then-begins, else-begins}
use Rattle.board_terms.proofs.account.Account.catch_up.Goals as goal

pub returns-clause-look : goal.returns-clause-look
returns-clause-look c =
    let m = c.self.inside in
    let i = c.self.invariant in
    let old = m.seen.front.log in
    let new = c.args.view.front.log in
    rw (← c.self.view_is) (elim c.if-begins.branch [
      | then-begins w ↦
          let begins : IsPrefix old new = search rules in
          let shows : ShowsAfter m.config new c.args.view.shown =
          subst (λ (s : BoardMember). ShowsAfter s.board.config new c.args.view.shown) (sym c.self.view_is)
          c.requires.shows in
          rw w.self-inside-is (IsLook-longer m.config m.number m.calls m.last old new c.args.view.shown i.0.inside
          begins shows)
      | else-begins w ↦
          rw w.self-inside-is (IsLook-longer m.config m.number m.calls m.last old old m.seen.shown i.0.inside
          (prefix_self old) i.1)
    ])
