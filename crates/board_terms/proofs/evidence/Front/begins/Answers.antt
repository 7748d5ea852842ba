-- Answers of `Front::begins` (src/evidence.rt): what the prover left open; rt looks here.
use Rattle.std.proofs.Common.{ap, subst, nat_le, refl, List}
use mathlib.Core.List.{IsPrefix}
use Rattle.auction_terms.specs.declared.Call.{Call}
use Rattle.board_terms.proofs.PrefixLaws.{prefix-by_length}
use Rattle.board_terms.proofs.evidence.Front.begins.Goals as goal

pub returns : goal.returns
returns c =
    let this = c.self.inside in
    let other = c.other.inside in
    let begins : IsPrefix this.seen.log c.learn.new.self.log =
    subst (λ (l : List Call). IsPrefix l c.learn.new.self.log) (ap (λ s. s.log) c.again-both.ensures)
    c.learn.ensures.2 in
    rw (← c.self.view_is, ← c.other.view_is)
    (prefix-by_length this.seen.log other.seen.log c.learn.new.self.log this.count other.count
    (nat_le this.count other.count) c.self.invariant c.other.invariant refl begins c.learn.ensures.3)
