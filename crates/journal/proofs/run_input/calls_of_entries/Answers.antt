-- Answers of `calls_of_entries` (src/run_input.rt): what the prover left open; rt looks here.
use Rattle.std.proofs.Common.{◌≡◌, ◌+◌, ◌∙◌, ap, arith, length, length-append, rules, sym, true}
use Rattle.std.proofs.lemmas.List.Elements.{All-push}
use Rattle.std.specs.Result.{is_ok}
use Rattle.order_file.specs.File.{IsBelow}
use Rattle.journal.specs.declared.day.DayHeader.{DayHeader}
use Rattle.journal.proofs.EntryLaws.{calls-more, next-behind}
use Rattle.journal.proofs.run_input.calls_of_entries.Goals as goal

pub turns-preserved : goal.turns-preserved
turns-preserved c =
    let inv = c.turns.invariant in
    let (front, is, all) = inv.calls in
    let (next, fine, left) = rw c.in-Some.is at c.in_ok-call.ensures.call in
    let below = rw c.in-Some.is at c.in_ok-call.ensures.below in
    let good : is_ok c.push.result ≡ true = search rules in
    let items = rw good at c.push.ensures.items in
    let count : length c.push.new.self.items ≡ c.turns.entries.count + 1 =
    rw items (length-append _ _ ∙ ap (λ n. n + 1) (sym inv.ready.read)) in
    let most = ap (λ (d : DayHeader). d.config.max_calls) inv.ready.day_is in
    record {
      ready = record {
        rows = next.rows;
        day_is = next.day_is ∙ inv.ready.day_is;
        read = next.read ∙ sym count;
        room = omega (arith, next.room, count, most);
      };
      below = rw items (All-push (IsBelow c.day-day.result.members) _ _ inv.below (rw inv.ready.day_is at below));
      calls = (_, items ∙ rw is (sym (calls-more front _)), next-behind front _ _ _ _ all left);
    }
