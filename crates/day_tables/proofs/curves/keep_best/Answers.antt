-- Answers of `keep_best` (src/curves.rt): what the prover left open; rt looks here.
use Rattle.std.proofs.Common.{◌≡◌, length, arith, rules, min}
use Rattle.std.specs.Int.{abs_diff}
use Rattle.lanes.specs.Selection.{kept_if_equal}
use Rattle.price_rules.proofs.SelectedLaws.{AreEven}
use Rattle.day_tables.specs.TableCurves.{curve_lanes}
use Rattle.day_tables.proofs.TickTableLaws.{long_as, long_left, unflagged_best, without_volume, best_left, some_best}
use Rattle.day_tables.proofs.curves.keep_best.Goals as goal

pub greatest_where-requires : goal.greatest_where-requires
greatest_where-requires c = long_as min _ _ _ _ c.requires.volumes c.requires.supplies c.requires.flags

pub keep_equal-requires : goal.keep_equal-requires
keep_equal-requires c = long_as min _ _ _ _ c.requires.volumes c.requires.supplies c.requires.flags

pub least_where-requires : goal.least_where-requires
least_where-requires c =
    long_left (kept_if_equal c.in-Some.most) _ _ _ _ c.keep_equal.ensures
    (long_as min _ _ _ _ c.requires.volumes c.requires.supplies c.requires.flags)
    (long_as abs_diff _ _ _ _ c.requires.surpluses c.requires.supplies c.requires.flags)

pub keep_equal-requires-2 : goal.keep_equal-requires-2
keep_equal-requires-2 c =
    long_left (kept_if_equal c.in-Some.most) _ _ _ _ c.keep_equal.ensures
    (long_as min _ _ _ _ c.requires.volumes c.requires.supplies c.requires.flags)
    (long_as abs_diff _ _ _ _ c.requires.surpluses c.requires.supplies c.requires.flags)

pub returns-in_default : goal.returns-in_default
returns-in_default c ticks book cand marked =
    let ds = c.args.demands.now in
    let ss = c.args.supplies.now in
    let flags = c.args.flags.now in
    let even : AreEven (curve_lanes ticks ds ss flags) = record { demands = omega arith; supplies = omega arith } in
    unflagged_best ticks ds ss flags c.args.volumes.now book even cand marked c.requires.volumes c.in_default.ensures

pub returns-then-most-eq0 : goal.returns-then-most-eq0
returns-then-most-eq0 c ticks book cand marked =
    let ds = c.args.demands.now in
    let ss = c.args.supplies.now in
    let flags = c.args.flags.now in
    let even : AreEven (curve_lanes ticks ds ss flags) = record { demands = omega arith; supplies = omega arith } in
    without_volume ticks ds ss flags c.args.volumes.now book even cand marked c.requires.volumes
    c.in-Some.most c.fill.new.self (omega arith) c.in-Some.ensures (c.fill.ensures.after (λ y same. search rules))

pub returns-in_default-least_where : goal.returns-in_default-least_where
returns-in_default-least_where c ticks book cand marked =
    let ds = c.args.demands.now in
    let ss = c.args.supplies.now in
    let flags = c.args.flags.now in
    let even : AreEven (curve_lanes ticks ds ss flags) = record { demands = omega arith; supplies = omega arith } in
    absurd (some_best ticks ds ss flags c.args.volumes.now book even cand marked c.requires.volumes
    c.in-Some.most c.keep_equal.new.flags c.in-Some.ensures c.keep_equal.ensures c.in_default-least_where.ensures)

pub returns : goal.returns
returns c ticks book cand marked =
    let ds = c.args.demands.now in
    let ss = c.args.supplies.now in
    let flags = c.args.flags.now in
    let even : AreEven (curve_lanes ticks ds ss flags) = record { demands = omega arith; supplies = omega arith } in
    let same : length c.keep_equal.new.flags ≡ length flags = omega arith in
    best_left ticks ds ss flags c.args.volumes.now book even cand marked c.requires.volumes
    c.in-Some.most c.in-Some-least_where.least c.keep_equal.new.flags c.args.surpluses.now c.keep_equal-2.new.flags
    (omega arith) c.in-Some.ensures c.keep_equal.ensures same c.requires.surpluses c.in-Some-least_where.ensures
    c.keep_equal-2.ensures
