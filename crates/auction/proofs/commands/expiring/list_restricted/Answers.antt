-- Answers of `list_restricted` (src/commands/expiring.rt): what the prover left open; rt looks here.
use Rattle.std.proofs.Common.{rules, ap, ◌∙◌, filter}
use Rattle.std.proofs.lemmas.Fn.{filter_same}
use Rattle.auction_terms.specs.declared.OpenOrder.{OpenOrder}
use Rattle.auction_terms.specs.Book.{is_restricted_to}
use Rattle.auction.proofs.commands.expiring.list_restricted.Goals as goal

pub returns : goal.returns
returns c =
    filter_same _ _ _ (λ x b f' k. search rules) _ _ c.retain.ensures.filtered
    ∙ ap (filter (λ (listed : OpenOrder). is_restricted_to c.args.kind listed.order.restriction)) c.in_ok-listed.ensures
