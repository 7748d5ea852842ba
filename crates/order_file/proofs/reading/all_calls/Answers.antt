-- Answers of `all_calls` (src/reading.rt): what the prover left open; rt looks here.
use Rattle.std.proofs.Common.{◌≡◌, ◌∙◌, ◌+◌, arith, length, length-append, rules, true}
use Rattle.std.proofs.lemmas.List.Elements.{All-push}
use Rattle.std.specs.Result.{is_ok}
use Rattle.order_file.specs.File.{IsBelow}
use Rattle.order_file.proofs.CallLaws.{after-next}
use Rattle.order_file.proofs.reading.all_calls.Goals as goal

pub loop-all-preserved : goal.loop-all-preserved
loop-all-preserved c =
    let inv = c.loop-all.invariant in
    let (ready, next) = rw c.in-Some.is at c.in_ok-call.ensures.call in
    let below = rw c.in-Some.is at c.in_ok-call.ensures.below in
    let good : is_ok c.push.result ≡ true = search rules in
    let items = rw good at c.push.ensures.items in
    let longer : length c.push.new.self.items ≡ length c.loop-all.all.items + 1 = rw items (length-append _ _) in (
      record {
        rows = ready.rows;
        members_are = ready.members_are ∙ inv.0.members_are;
        most = ready.most ∙ inv.0.most;
        read = omega (arith, ready.read, inv.0.read, longer);
        room = omega (arith, ready.room, inv.0.most, inv.0.read, longer);
      },
      rw items (after-next _ _ _ _ _ inv.1 next),
      rw items (All-push (IsBelow c.args.calls.now.members) _ _ inv.2 (rw inv.0.members_are at below)),
    )
