-- Answers of `CommittedLines::make_room` (src/journal.rt): what the prover left open; rt looks here.
use Rattle.std.proofs.Common.{◌+◌, ◌++◌, List, ℕ, length, replicate, refl, sym, ◌∙◌, ap, subst, arith}
use Rattle.journal_file.specs.Device.{IsResized, IsOnlyOutcome}
use Rattle.journal_file.specs.Committed.{committed, Means}
use Rattle.journal_file.proofs.Lines.{committed-twice}
use Rattle.journal_file.proofs.Moments.{one, two}
use Rattle.journal_file.proofs.TornEnds.{torn-end-room}
use Rattle.journal_file.proofs.Crash.{resized_means, grown, committed-text}
use Rattle.journal_file.proofs.journal.CommittedLines.make_room.Goals as goal

pub returns-in_err-resize-clause-any_moment : goal.returns-in_err-resize-clause-any_moment
returns-in_err-resize-clause-any_moment g c =
    let s = c.requires in
    let device = c.args.self.now.device in
    let file = g.D.Device.seen device in
    let len = c.args.self.now.end + (c.args.count + c.args.self.now.spare) in
    let P = Means (committed file) in
    let torn = torn-end-room file (committed file) c.args.self.now.room s.file refl in
    let here : (f : List ℕ) → g.D.Device.may_leave device f → P f = λ f now.
    subst P (sym (s.durable f now)) (refl, torn) in
    let after : (f : List ℕ) → g.D.Device.may_leave c.resize.new.self f → P f = λ f now.
    let from = c.resize.ensures.crash f now in
    resized_means file len f (omega (arith, s.end)) torn
    (subst (λ d. IsResized len d f) (s.durable from.0 from.1) from.2) in
    one g.D.Device.moment g.D.Device.left_since g.D.Device.may_leave g.met.D.Device.only_now device c.resize.new.self P
    here c.resize.ensures.time after

pub returns-in_err-sync-clause-any_moment : goal.returns-in_err-sync-clause-any_moment
returns-in_err-sync-clause-any_moment g c =
    let s = c.requires in
    let device = c.args.self.now.device in
    let file = g.D.Device.seen device in
    let len = c.args.self.now.end + (c.args.count + c.args.self.now.spare) in
    let P = Means (committed file) in
    let torn = torn-end-room file (committed file) c.args.self.now.room s.file refl in
    let here : (f : List ℕ) → g.D.Device.may_leave device f → P f = λ f now.
    subst P (sym (s.durable f now)) (refl, torn) in
    let after : (f : List ℕ) → g.D.Device.may_leave c.resize.new.self f → P f = λ f now.
    let from = c.resize.ensures.crash f now in
    resized_means file len f (omega (arith, s.end)) torn
    (subst (λ d. IsResized len d f) (s.durable from.0 from.1) from.2) in
    two g.D.Device.moment g.D.Device.left_since g.D.Device.may_leave g.met.D.Device.only_now device c.resize.new.self
    c.sync.new.self P here c.resize.ensures.time after c.sync.ensures.time c.sync.ensures.crash

pub returns-clause-any_moment : goal.returns-clause-any_moment
returns-clause-any_moment g c =
    let s = c.requires in
    let device = c.args.self.now.device in
    let file = g.D.Device.seen device in
    let len = c.args.self.now.end + (c.args.count + c.args.self.now.spare) in
    let P = Means (committed file) in
    let torn = torn-end-room file (committed file) c.args.self.now.room s.file refl in
    let here : (f : List ℕ) → g.D.Device.may_leave device f → P f = λ f now.
    subst P (sym (s.durable f now)) (refl, torn) in
    let after : (f : List ℕ) → g.D.Device.may_leave c.resize.new.self f → P f = λ f now.
    let from = c.resize.ensures.crash f now in
    resized_means file len f (omega (arith, s.end)) torn
    (subst (λ d. IsResized len d f) (s.durable from.0 from.1) from.2) in
    two g.D.Device.moment g.D.Device.left_since g.D.Device.may_leave g.met.D.Device.only_now device c.resize.new.self
    c.sync.new.self P here c.resize.ensures.time after c.sync.ensures.time c.sync.ensures.crash

pub returns-clause-same : goal.returns-clause-same
returns-clause-same g c =
    let s = c.requires in
    let file = g.D.Device.seen c.args.self.now.device in
    let more = c.args.count + c.args.self.now.spare in
    let is =
    c.sync.ensures.seen ∙ c.in_ok-resize.ensures.resized
    ∙ grown file c.args.self.now.end c.args.self.now.room s.file s.end more
    (omega (arith, c.if-count-self.false)) in
    ap committed is ∙ committed-text (committed file) more (committed-twice file)

pub returns-clause-settled : goal.returns-clause-settled
returns-clause-settled g c =
    let s = c.requires in
    let file = g.D.Device.seen c.args.self.now.device in
    let more = c.args.count + c.args.self.now.spare in
    let is =
    c.sync.ensures.seen ∙ c.in_ok-resize.ensures.resized
    ∙ grown file c.args.self.now.end c.args.self.now.room s.file s.end more
    (omega (arith, c.if-count-self.false)) in
    let text = returns-clause-same g c in
    record {
      file = is ∙ ap (λ (l : List ℕ). l ++ replicate more 0) (sym text);
      end = s.end ∙ ap length (sym text);
      durable =
          subst (λ f. IsOnlyOutcome f (g.D.Device.may_leave c.sync.new.self)) (sym c.sync.ensures.seen)
          c.in_ok-sync.ensures.durable;
      fits = omega (arith, s.spare, c.if-count-gt-MAX_BYTES.false, c.if-self-count.false);
      some = s.some;
      spare = s.spare;
    }

pub returns-clause-room : goal.returns-clause-room
returns-clause-room g c = omega (arith, c.requires.some)
