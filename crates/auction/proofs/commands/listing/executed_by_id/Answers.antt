-- Answers of `executed_by_id` (src/commands/listing.rt): what the prover left open; rt looks here.
use Rattle.std.proofs.Common.{sym, ◌∙◌, arith}
use Rattle.std.proofs.lemmas.List.{take_more}
use Rattle.std.proofs.lemmas.Grind.{common_steps}
use Rattle.auction.proofs.ExecutionLaws.{executed_by_id-more, executed_fits, executed_of_none}
use Rattle.auction.proofs.commands.listing.executed_by_id.Goals as goal

pub loop-trade-init : goal.loop-trade-init
loop-trade-init c =
    c.in_ok-executed.ensures.items_if_clones_equal (λ y e. e) ∙ sym (executed_of_none c.args.side c.args.last)

pub add-requires : goal.add-requires
add-requires c = grind (arith, common_steps, executed_fits)

pub loop-trade-preserved : goal.loop-trade-preserved
loop-trade-preserved c = grind (arith, common_steps, take_more, executed_by_id-more)
