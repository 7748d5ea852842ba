-- Answers of `audit_entries` (src/running.rt): what the prover left open; rt looks here.
use Rattle.std.proofs.Common.{◌≡◌, [], ap, sym}
use Rattle.auction_terms.specs.Auxiliary.RunningAuction.{RunningAuction}
use Rattle.day_audit.proofs.FoundLaws.{audited}
use Rattle.day_road.proofs.HeardLaws.{open-none}
use Rattle.day_audit.proofs.running.audit_entries.Goals as goal

pub returns-in-Ok-hear_all-clause-audited : goal.returns-in-Ok-hear_all-clause-audited
returns-in-Ok-hear_all-clause-audited c =
    let none : 0 ≡ c.in-Ok.auction.calls = sym (ap (λ (a : RunningAuction). a.calls) c.in-Ok.ensures.opening) in
    rw c.current.ensures
    (audited c.args.entries.now c.hear_all.new.listener c.in-Ok.auction c.hear_all.new.auction
    (rw c.day.ensures at c.in-Ok.ensures.opening)
    (open-none _ _ (rw c.day.ensures at c.in-Ok.ensures.refused))
    (c.in-Ok-hear_all.ensures.heard [] (c.requires.none, none)))
