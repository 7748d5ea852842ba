-- Answers of `orders_for` (src/run_input.rt): what the prover left open; rt looks here.
use Rattle.std.proofs.Common.{◌≤◌, length, rules}
use Rattle.std.proofs.lemmas.Result.{err_from_is_err_and}
use Rattle.order_file.specs.declared.reading.TheConstants.{MAX_BYTES}
use Rattle.journal.proofs.EntryLaws.{fails-alike, orders-bad, orders-good, orders-long}
use Rattle.journal.proofs.run_input.orders_for.Goals as goal

pub returns-then-bytes-gt-MAX_BYTES-clause-calls : goal.returns-then-bytes-gt-MAX_BYTES-clause-calls
returns-then-bytes-gt-MAX_BYTES-clause-calls c = orders-long _ _ (search rules)

pub returns-in_err-calls-clause-calls : goal.returns-in_err-calls-clause-calls
returns-in_err-calls-clause-calls c =
    let short : length c.args.bytes.now ≤ MAX_BYTES = search rules in
    let p = err_from_is_err_and c.from_residual.result c.from_residual.ensures.1 in
    rw (p.1, p.2) (fails-alike _ _ _ (λ e. orders-bad _ _ _ short e) c.in_err-calls.ensures.calls)

pub returns-clause-calls : goal.returns-clause-calls
returns-clause-calls c =
    let short : length c.args.bytes.now ≤ MAX_BYTES = search rules in
    orders-good _ _ _ short c.in_ok-calls.ensures.calls
