-- Answers of `best_of` (src/choice.rt): what the prover left open; rt looks here.
use Rattle.std.proofs.Common.{◌≡◌, length, arith}
use Rattle.std.proofs.lemmas.Grind.{common_steps}
use Rattle.auction_terms.specs.Auxiliary.BestTicks.{keyed}
use Rattle.price_rules.proofs.SelectedLaws.{AreEven, none_flagged, none_positive, some_left, best_within, best_marked}
use Rattle.price_rules.proofs.SelectedLaws.{best_lead}
use Rattle.price_rules.proofs.choice.best_of.Goals as goal

pub returns-in_default : goal.returns-in_default
returns-in_default c book few cand all marked =
    let lanes = c.args.lanes.now in
    let even : AreEven lanes = record { demands = omega arith; supplies = omega arith } in
    none_flagged book lanes even cand few c.lesser.new.out marked c.lesser.ensures c.in_default.ensures

pub returns-then-volume-eq0 : goal.returns-then-volume-eq0
returns-then-volume-eq0 c book few cand all marked = grind (arith, common_steps, none_positive)

pub returns-in_default-least_where : goal.returns-in_default-least_where
returns-in_default-least_where c book few cand all marked =
    let lanes = c.args.lanes.now in
    let even : AreEven lanes = record { demands = omega arith; supplies = omega arith } in
    absurd (some_left book lanes even cand few c.lesser.new.out marked c.lesser.ensures c.in-Some.volume
    c.keep_equal.new.flags c.in-Some.ensures c.keep_equal.ensures c.in_default-least_where.ensures)

pub returns : goal.returns
returns c book few cand all marked =
    let lanes = c.args.lanes.now in
    let even : AreEven lanes = record { demands = omega arith; supplies = omega arith } in
    let m = c.in-Some.volume in
    let s = c.in-Some-least_where.surplus in
    let vols = c.lesser.new.out in
    let fs = c.keep_equal.new.flags in
    let gaps = c.gap_size.new.out in
    let gs = c.keep_equal-2.new.flags in
    let same : length fs ≡ length lanes.flags = omega arith in
    let within =
    best_within book lanes even cand few vols marked c.lesser.ensures m fs c.in-Some.ensures c.keep_equal.ensures
    gaps s gs c.gap_size.ensures same c.in-Some-least_where.ensures c.keep_equal-2.ensures in
    let left =
    best_marked book lanes even cand few vols marked c.lesser.ensures m fs c.in-Some.ensures c.keep_equal.ensures
    gaps s gs c.gap_size.ensures same c.in-Some-least_where.ensures c.keep_equal-2.ensures in
    best_lead book lanes even cand few vols marked c.lesser.ensures m fs c.in-Some.ensures c.keep_equal.ensures gaps s
    gs c.gap_size.ensures same c.in-Some-least_where.ensures c.keep_equal-2.ensures
    c.lower_of.result c.upper_of.result (omega arith) (c.lower_of.ensures book (keyed book m s few) cand within left)
    (c.upper_of.ensures book (keyed book m s few) cand within left)
