-- Answers of `are_lines_short` (src/overlong.rt): what the prover left open; rt looks here.
use Rattle.std.proofs.Common.{◌+◌, ◌≢◌, rules}
use Rattle.std.proofs.lemmas.List.Elements.{All-drop}
use Rattle.order_file.proofs.FewFieldLaws.{few-behind, few-in_short}
use Rattle.order_file.proofs.overlong.are_lines_short.Goals as goal

pub lines-init : goal.lines-init
lines-init c = record { free = c.requires; few = λ few. few }

pub lines-preserved : goal.lines-preserved
lines-preserved c =
    let inv = c.lines.invariant in
    record {
      free = rw c.split_at-in-lines.ensures.back (All-drop (λ b. b ≢ 34) (c.in-Some.end + 1) c.lines.rest.now inv.free);
      few = λ few. inv.few (few-behind c.lines.rest.now c.in-Some.end (search rules) (search rules) (search rules)
          inv.free (rw c.split_at-in-lines.ensures.back at few));
    }

pub returns : goal.returns
returns c = λ good. c.lines.invariant.few (few-in_short c.lines.rest.now (search rules))
