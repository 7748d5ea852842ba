-- Answers of `uncross_one` (src/outcomes.rt): what the prover left open; rt looks here.
use Rattle.std.proofs.Common.{rules, ◌≡◌, ℕ, ◌+◌, ap, ◌∙◌, subst, List, drop, filter, length, map}
use Rattle.std.proofs.lemmas.Fn.{filter_same}
use Rattle.std.proofs.lemmas.List.{length-replicate, with_items_is}
use Rattle.std.specs.Vec.{with_items}
use Rattle.auction_terms.specs.Auxiliary.RunningAuction.{RunningAuction}
use Rattle.auction_terms.specs.declared.Side.TheVariants.{Bid, Ask}
use Rattle.auction_terms.specs.declared.Trade.{Trade}
use Rattle.auction_terms.proofs.LadderLaws.{length-tick_values}
use Rattle.auction_c.specs.Executed.{AreNumberedUpTo, is_touched_in, outcome_in, shares_by_id}
use Rattle.auction_c.specs.Outcomes as uncrossing
use Rattle.auction_c.proofs.OutcomeLaws.{touched_outcomes, written_count, written_first}
use Rattle.auction_c.proofs.outcomes.uncross_one.Goals as goal

-- the tables, as the closure and the copying see them
abbrev bids_after : goal.After-drop-listed-2 → List ℕ
bids_after c = (with_items c.in-Ok-empty_table.bids c.add_trades.new.table).items

abbrev asks_after : goal.After-drop-listed-2 → List ℕ
asks_after c = (with_items c.in-Ok-empty_table-2.asks c.add_trades-2.new.table).items

executed : (c : goal.After-drop-listed-2)
    → c.trades_after-trades.result.now ≡ uncrossing.uncross_trades c.args.auction.now
executed c =
    c.trades_after-trades.ensures
    ∙ ap (λ (tape : List Trade). drop (length tape) c.tape.result.now) c.tape-seen.ensures
    ∙ ap (drop (length c.args.auction.now.state.tape))
    (c.tape.ensures ∙ ap (λ (after : RunningAuction). after.state.tape) c.apply-answer.ensures.state)

numbered : (c : goal.After-drop-listed-2) → AreNumberedUpTo c.last_id-last.result c.in-Ok.listed.items
numbered c = subst (AreNumberedUpTo c.last_id-last.result) c.deref.ensures.value c.last_id-last.ensures

bought : (c : goal.After-drop-listed-2)
    → bids_after c ≡ shares_by_id c.trades_after-trades.result.now Bid (c.last_id-last.result + 1)
bought c =
    with_items_is c.in-Ok-empty_table.bids c.add_trades.new.table
    (ap length c.add_trades.ensures ∙ length-tick_values _ 0 (length c.deref_mut.result.now)
    ∙ c.deref_mut.ensures.len)
    ∙ c.add_trades.ensures
    ∙ ap (shares_by_id c.trades_after-trades.result.now Bid)
    (ap length (c.deref_mut.ensures.value ∙ c.in-Ok-empty_table.ensures)
    ∙ length-replicate (c.last_id-last.result + 1) 0)

sold : (c : goal.After-drop-listed-2)
    → asks_after c ≡ shares_by_id c.trades_after-trades.result.now Ask (c.last_id-last.result + 1)
sold c =
    with_items_is c.in-Ok-empty_table-2.asks c.add_trades-2.new.table
    (ap length c.add_trades-2.ensures ∙ length-tick_values _ 0 (length c.deref_mut-2.result.now)
    ∙ c.deref_mut-2.ensures.len)
    ∙ c.add_trades-2.ensures
    ∙ ap (shares_by_id c.trades_after-trades.result.now Ask)
    (ap length (c.deref_mut-2.ensures.value ∙ c.in-Ok-empty_table-2.ensures)
    ∙ length-replicate (c.last_id-last.result + 1) 0)

kept : (c : goal.After-drop-listed-2)
    → c.deref-2.result.now
    ≡ filter (is_touched_in c.apply-answer.result (bids_after c) (asks_after c)) c.in-Ok.listed.items
kept c =
    c.deref-2.ensures.value
    ∙ filter_same _ (is_touched_in c.apply-answer.result (bids_after c) (asks_after c)) _
    (λ x b f' k. search rules) _ _ c.retain.ensures.filtered

touched : (c : goal.After-drop-listed-2)
    → map (outcome_in c.apply-answer.result (bids_after c) (asks_after c)) c.deref-2.result.now
    ≡ uncrossing.outcomes c.args.auction.now
touched c =
    touched_outcomes c.args.auction.now c.apply-answer.result c.trades_after-trades.result.now c.last_id-last.result
    c.in-Ok.listed.items c.deref-2.result.now (bids_after c) (asks_after c)
    c.apply-answer.ensures.reply (executed c) c.in-Ok.ensures (numbered c) (bought c) (sold c) (kept c)

pub returns-clause-copied : goal.returns-clause-copied
returns-clause-copied c done =
    written_count (outcome_in c.apply-answer.result (bids_after c) (asks_after c))
    c.deref-2.result.now (uncrossing.outcomes c.args.auction.now) (length c.args.outcomes.now) c.copy_outcomes.result
    (touched c) c.copy_outcomes.ensures.count

pub returns-clause-outcomes : goal.returns-clause-outcomes
returns-clause-outcomes c done =
    written_first (outcome_in c.apply-answer.result (bids_after c) (asks_after c))
    c.deref-2.result.now (uncrossing.outcomes c.args.auction.now) c.copy_outcomes.new.to
    (drop c.copy_outcomes.result c.args.outcomes.now) c.copy_outcomes.result (touched c)
    c.copy_outcomes.ensures.copied
