-- Answers of `upper_of` (src/choice.rt): what the prover left open; rt looks here.
use Rattle.std.proofs.Common.{◌≡◌, ◌∙◌, length, arith}
use Rattle.std.proofs.lemmas.Bool.{ne_eqb}
use Rattle.lanes.specs.Selection.{kept_if_above}
use Rattle.price_rules.proofs.MarkLaws.{highest_at, lowest_at}
use Rattle.price_rules.proofs.SelectedLaws.{AreEven, rising_within, rising_asks, asks_marked}
use Rattle.price_rules.proofs.choice.upper_of.Goals as goal

pub returns-then-surplus-eq0 : goal.returns-then-surplus-eq0
returns-then-surplus-eq0 c book best cand within marked =
    let lanes = c.args.lanes.now in
    let even : AreEven lanes = record { demands = omega arith; supplies = omega arith } in
    rw c.if-surplus-eq0.true
    (c.tick_in.ensures
    ∙ highest_at lanes.ticks c.args.flags best marked (rising_within book lanes even cand c.args.flags within)
    c.last.result c.last.ensures)

pub returns : goal.returns
returns c book best cand within marked =
    let lanes = c.args.lanes.now in
    let even : AreEven lanes = record { demands = omega arith; supplies = omega arith } in
    let same : length c.args.flags ≡ length lanes.flags = omega arith in
    let flags = kept_if_above lanes.supplies lanes.demands c.args.flags in
    rw (ne_eqb c.args.surplus 0 c.if-surplus-eq0.false) (c.tick_in-2.ensures
    ∙ lowest_at lanes.ticks flags _ (asks_marked book lanes even cand c.args.flags best same within marked)
    (rising_asks book lanes even cand c.args.flags same within) c.first.result
    (rw c.keep_above.ensures at c.first.ensures))
