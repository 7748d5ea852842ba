-- Answers of `run_journaled` (src/journaled_run.rt): what the prover left open; rt looks here.
use Rattle.std.proofs.Common.{refl, rules}
use Rattle.live_session.proofs.JournaledRunLaws.{kept-by, same-device}
use Rattle.live_session.proofs.journaled_run.run_journaled.Goals as goal

pub returns : goal.returns
returns g c =
    let talk = c.new-talk.result in
    let made = c.new-talk.ensures in
    let last = c.run_live-ended.new.talk in
    let ran = c.run_live-ended.ensures in
    let same = same-device _ c.args.terms c.args.auction talk last c.run_live-ended.result ran in
    let input = same.0 in
    let output = same.1 in
    let journal = same.2 in
    kept-by _ g.D.Device.seen g.D.Device.may_leave g.D.Device.moment g.D.Device.left_since g.D.Device.faults
    g.met.D.Device.only_now
    c.args.terms c.args.auction talk last c.run_live-ended.result c.args.journal.now _ talk.journal.now
    last.journal.now talk.calls.events last.calls.events talk.is_broken last.is_broken g.R.Source g.O.Sink
    c.args.input.now _ last.input.now c.args.output.now _ last.output.now c.requires made.calls made.broken
    (rw made.journal refl) (search rules) ran same.3 last.steady (rw (made.input, made.output, made.calls) refl) refl
    (search rules) (search rules)
