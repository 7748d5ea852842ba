-- Answers of `bytes_to_overlong` (src/overlong.rt): what the prover left open; rt looks here.
use Rattle.order_file.proofs.OverlongLaws.{scan-ends, scan-next, scan-stops}
use Rattle.order_file.proofs.overlong.bytes_to_overlong.Goals as goal

pub returns-then-fields-gt-MOST_FIELDS-clause-exact : goal.returns-then-fields-gt-MOST_FIELDS-clause-exact
returns-then-fields-gt-MOST_FIELDS-clause-exact c =
    scan-stops _ _ _ _ _ c.loop-at.invariant c.if-fields-gt-MOST_FIELDS.true

pub loop-at-preserved : goal.loop-at-preserved
loop-at-preserved c =
    scan-next _ _ _ _ _ _ _ c.loop-at.invariant c.loop-at-test.true c.if-fields-gt-MOST_FIELDS.false
    c.after-spot.ensures c.fields_at-fields.ensures

pub returns-clause-exact : goal.returns-clause-exact
returns-clause-exact c =
    scan-ends _ _ _ _ _ c.loop-at.invariant c.loop-at.auto.at-end c.loop-at-test.false
