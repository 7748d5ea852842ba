-- Answers of `put_aside` (src/beginning.rt): what the prover left open; rt looks here.
use Rattle.std.proofs.Common.{sym, ◌∙◌, ap}
use Rattle.std.proofs.lemmas.List.{append-nil}
use Rattle.journal_file.specs.Committed.{committed}
use Rattle.live_session.proofs.BegunSessionLaws.{aside-cause, not-touched, untouched}
use Rattle.live_session.proofs.beginning.put_aside.Goals as goal

pub returns-in-Err-clause-lacks : goal.returns-in-Err-clause-lacks
returns-in-Err-clause-lacks g c =
    let d = g.D.Device in
    record {
      cause = aside-cause d c.args.device.now c.put_aside.new.self c.in-Err.error c.in-Err.ensures.cause;
      leaves =
          untouched d g.met.D.Device.only_now c.args.device.now c.put_aside.new.self c.requires.torn
          c.put_aside.ensures.time c.put_aside.ensures.crash;
    }

pub returns-in-Ok-clause-adds : goal.returns-in-Ok-clause-adds
returns-in-Ok-clause-adds g c = record {
  all = ap committed c.put_aside.ensures.seen ∙ sym (append-nil (committed (g.D.Device.seen c.args.device.now)));
  leaves =
      untouched g.D.Device g.met.D.Device.only_now c.args.device.now c.put_aside.new.self c.requires.torn
      c.put_aside.ensures.time c.put_aside.ensures.crash;
}

pub returns-then-count-eq0-clause-adds : goal.returns-then-count-eq0-clause-adds
returns-then-count-eq0-clause-adds g c = record {
  all = sym (append-nil (committed (g.D.Device.seen c.args.device.now)));
  leaves = not-touched g.D.Device g.met.D.Device.only_now c.args.device.now c.requires.torn;
}
