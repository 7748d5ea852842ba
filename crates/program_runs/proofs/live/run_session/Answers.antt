-- Answers of `run_session` (src/live.rt): what the prover left open; rt looks here.
use Rattle.std.proofs.Common.{refl, rules}
use Rattle.live_session.proofs.JournaledRunLaws.{same-device}
use Rattle.program_runs.proofs.LiveLaws.{opened-well, ran-by}
use Rattle.program_runs.proofs.live.run_session.Goals as goal

pub returns : goal.returns
returns g c =
    let ran = rw c.new-channels.ensures at c.run_live-ended.ensures in
    let same = same-device _ _ _ _ _ c.run_live-ended.result ran in
    let reader = same.0 in
    let out = same.1 in
    rw c.as_session.ensures (
    ran-by _ c.args.day c.args.reserve _ _ _ c.run_live-ended.result (opened-well _ _ c.in-Ok.ensures.refused)
    c.in-Ok.ensures.opening ran g.R.Source g.O.Sink c.args.reader.now _ c.run_live-ended.new.talk.input.now
    c.args.out.now _ c.run_live-ended.new.talk.output.now refl (search rules) (search rules)
    )
