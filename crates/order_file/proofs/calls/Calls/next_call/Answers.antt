-- Answers of `Calls::next_call` (src/calls.rt): what the prover left open; rt looks here.
use Rattle.std.proofs.Common.{◌≡◌, arith, refl, sym}
use Rattle.std.proofs.lemmas.Result.{err_from_is_err_and}
use Rattle.order_file.proofs.CallLaws.{calls_after-bad, calls_after-end, calls_after-full, calls_after-next, fails-at}
use Rattle.order_file.proofs.calls.Calls.next_call.Goals as goal

pub returns-then-not-branch-clause-call : goal.returns-then-not-branch-clause-call
returns-then-not-branch-clause-call c =
    calls_after-end _ _ _ _ (rw c.if-not-branch.true at c.in_ok-next.ensures)

pub returns-then-self-clause-call : goal.returns-then-self-clause-call
returns-then-self-clause-call c =
    let found = rw c.if-not-branch.false at c.in_ok-next.ensures in
    let last : c.from-number.result ≡ c.args.self.now.count = omega arith in
    rw last (calls_after-full _ _ _ _ _ _ found.0 c.if-self.true)

pub returns-in_err-call-clause-call : goal.returns-in_err-call-clause-call
returns-in_err-call-clause-call c =
    let found = rw c.if-not-branch.false at c.in_ok-next.ensures in
    let bad = rw c.from-number.ensures at c.in_err-call.ensures.call in
    let p = err_from_is_err_and c.from_residual-in_err-call.result c.from_residual-in_err-call.ensures.1 in
    rw (p.1, p.2) (fails-at _ _ (calls_after-bad _ _ _ _ _ _ _ found.0 c.if-self.false (sym bad)))

pub returns-clause-call : goal.returns-clause-call
returns-clause-call c =
    let found = rw c.if-not-branch.false at c.in_ok-next.ensures in
    let call = rw c.from-number.ensures at c.in_ok-call.ensures.call in (
      record { rows = found.1; members_are = refl; most = refl; read = refl; room = omega (arith, c.if-self.false) },
      calls_after-next _ _ _ _ _ _ _ found.0 c.if-self.false (sym call),
    )
