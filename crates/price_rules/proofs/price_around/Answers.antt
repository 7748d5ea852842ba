-- Answers of `price_around` (src/lib.rt): what the prover left open; rt looks here.
use Rattle.std.proofs.Common.{Some, None, sym, ◌∙◌, arith}
use Rattle.price_rules.specs.Candidates.{lead_of}
use Rattle.price_rules.proofs.CurveLaws.{curves-of_ladder}
use Rattle.price_rules.proofs.DecidingLaws.{around_there, best_there, marked_there, market_there}
use Rattle.price_rules.proofs.PointLaws.{price_some, price_none_some, price_market}
use Rattle.price_rules.proofs.price_around.Goals as goal

pub returns-in-Some : goal.returns-in-Some
returns-in-Some c view book other h k flags near =
    let v = c.args.ladder.now in
    let a = c.args.around.now in
    let is = c.requires.around in
    let lanes = c.limits_around-lanes.ensures in
    let told = curves-of_ladder view other k flags in
    let best =
    best_there v view a near is book other c.limits_around-lanes.result (Some (lead_of c.in-Some.leaders))
    (curves-of_ladder v book h c.requires.flags) told lanes.marked (lanes.candidates book h) c.in-Some.ensures in
    c.clamp.ensures
    ∙ sym (price_some view other a c.args.reference (lead_of c.in-Some.leaders) told (around_there v view a near is)
    best)

pub returns-in-Some-first : goal.returns-in-Some-first
returns-in-Some-first c view book other h k flags near =
    let v = c.args.ladder.now in
    let a = c.args.around.now in
    let is = c.requires.around in
    let lanes = c.limits_around-lanes.ensures in
    let told = curves-of_ladder view other k flags in
    let best =
    best_there v view a near is book other c.limits_around-lanes.result None
    (curves-of_ladder v book h c.requires.flags) told
    lanes.marked (lanes.candidates book h) c.in-None.ensures in
    let marked = marked_there v view a near is _ _ lanes.marked in
    sym (price_none_some view other a c.args.reference _ told (around_there v view a near is) best
    (marked.there c.in-Some-first.field-0 c.in-Some-first.ensures.here))

pub returns-in-None-first : goal.returns-in-None-first
returns-in-None-first c view book other h k flags near =
    let v = c.args.ladder.now in
    let a = c.args.around.now in
    let is = c.requires.around in
    let lanes = c.limits_around-lanes.ensures in
    let told = curves-of_ladder view other k flags in
    let best =
    best_there v view a near is book other c.limits_around-lanes.result None
    (curves-of_ladder v book h c.requires.flags) told
    lanes.marked (lanes.candidates book h) c.in-None.ensures in
    let marked = marked_there v view a near is _ _ lanes.marked in
    c.market_price.ensures
    ∙ market_there v view a near is c.args.reference
    ∙ sym (price_market view other a c.args.reference told (around_there v view a near is) best (λ t e. let m =
    marked.place t e in
    c.in-None-first.ensures m.0 (omega arith) m.1 m.2) (omega (arith, c.requires.low, near.low))
    (omega (arith, c.requires.high, near.low, near.long)))
