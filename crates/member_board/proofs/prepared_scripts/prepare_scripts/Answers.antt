-- Answers of `prepare_scripts` (src/prepared_scripts.rt): what the prover left open; rt looks here.
use Rattle.std.proofs.Common.{rules, arith, ap, sym, subst, ◌≡◌, ◌∙◌, ◌∷◌, [], ◌++◌, All, List, map, length}
use Rattle.std.proofs.Common.{append_assoc}
use Rattle.std.proofs.lemmas.List.Elements.{All-head, All-tail}
use Rattle.std.specs.Vec.Iter.{into_iter_items}
use Rattle.auction_terms.specs.declared.Command.{Command}
use Rattle.member_board.specs.declared.script.Script.{Script}
use Rattle.member_board.specs.PlaysScript.{FitsHistory}
use Rattle.member_board.proofs.prepared_scripts.prepare_scripts.Goals as goal

pub invariant_of-push_reserved : goal.invariant_of-push_reserved
invariant_of-push_reserved c =
    let s : Script = c.unwrap-commands.result in
    let step : into_iter_items c.loop.scripts ≡ s ∷ into_iter_items c.next.new.self = search rules in
    let few : FitsHistory s =
    All-head FitsHistory s (into_iter_items c.next.new.self) (subst (All FitsHistory) step c.loop.invariant.few) in
    (search rules, search rules, few)

pub loop-preserved : goal.loop-preserved
loop-preserved c =
    let s : Script = c.unwrap-commands.result in
    let was = c.loop.invariant in
    let commands : Script → List Command = λ x. x.commands.items in
    let rest = into_iter_items c.next.new.self in
    let step : into_iter_items c.loop.scripts ≡ s ∷ rest = search rules in
    record {
      count = search rules;
      left = omega (arith, was.left, ap length step);
      room = search rules;
      few = All-tail FitsHistory s rest (subst (All FitsHistory) step was.few);
      prepared_scripts =
          ap (λ t. t ++ map commands rest) c.push_reserved.ensures.items
          ∙ append_assoc c.loop.prepared_scripts.items (s.commands.items ∷ []) (map commands rest)
          ∙ (λ i. c.loop.prepared_scripts.items ++ map commands (sym step i)) ∙ was.prepared_scripts;
    }
