-- Answers of `CommittedLines::cut` (src/journal.rt): what the prover left open; rt looks here.
use Rattle.std.proofs.Common.{◌≡◌, List, ℕ, length, sym, ◌∙◌, ap, subst, arith, refl}
use Rattle.std.proofs.lemmas.List.{append-nil}
use Rattle.journal_file.specs.Device.{IsResized, IsOnlyOutcome}
use Rattle.journal_file.specs.Committed.{committed, Means}
use Rattle.journal_file.proofs.Lines.{committed-twice}
use Rattle.journal_file.proofs.Moments.{one, two}
use Rattle.journal_file.proofs.TornEnds.{torn-end-room}
use Rattle.journal_file.proofs.Crash.{resized_means, cut_done}
use Rattle.journal_file.proofs.journal.CommittedLines.cut.Goals as goal

pub returns-in_err-resize-clause-any_moment : goal.returns-in_err-resize-clause-any_moment
returns-in_err-resize-clause-any_moment g c =
    let s = c.requires in
    let device = c.args.self.now.device in
    let file = g.D.Device.seen device in
    let len = c.args.self.now.end in
    let P = Means (committed file) in
    let torn = torn-end-room file (committed file) c.args.self.now.room s.file refl in
    let here : (f : List ℕ) → g.D.Device.may_leave device f → P f = λ f now.
    subst P (sym (s.durable f now)) (refl, torn) in
    let after : (f : List ℕ) → g.D.Device.may_leave c.resize.new.self f → P f = λ f now.
    let from = c.resize.ensures.crash f now in
    resized_means file len f (omega (arith, s.end)) torn
    (subst (λ d. IsResized len d f) (s.durable from.0 from.1) from.2) in
    one g.D.Device.moment g.D.Device.left_since g.D.Device.may_leave g.met.D.Device.only_now device c.resize.new.self P
    here c.resize.ensures.time after

pub returns-in_err-sync-clause-any_moment : goal.returns-in_err-sync-clause-any_moment
returns-in_err-sync-clause-any_moment g c =
    let s = c.requires in
    let device = c.args.self.now.device in
    let file = g.D.Device.seen device in
    let len = c.args.self.now.end in
    let P = Means (committed file) in
    let torn = torn-end-room file (committed file) c.args.self.now.room s.file refl in
    let here : (f : List ℕ) → g.D.Device.may_leave device f → P f = λ f now.
    subst P (sym (s.durable f now)) (refl, torn) in
    let after : (f : List ℕ) → g.D.Device.may_leave c.resize.new.self f → P f = λ f now.
    let from = c.resize.ensures.crash f now in
    resized_means file len f (omega (arith, s.end)) torn
    (subst (λ d. IsResized len d f) (s.durable from.0 from.1) from.2) in
    two g.D.Device.moment g.D.Device.left_since g.D.Device.may_leave g.met.D.Device.only_now device c.resize.new.self
    c.sync.new.self P here c.resize.ensures.time after c.sync.ensures.time c.sync.ensures.crash

pub returns-clause-any_moment : goal.returns-clause-any_moment
returns-clause-any_moment g c =
    let s = c.requires in
    let device = c.args.self.now.device in
    let file = g.D.Device.seen device in
    let len = c.args.self.now.end in
    let P = Means (committed file) in
    let torn = torn-end-room file (committed file) c.args.self.now.room s.file refl in
    let here : (f : List ℕ) → g.D.Device.may_leave device f → P f = λ f now.
    subst P (sym (s.durable f now)) (refl, torn) in
    let after : (f : List ℕ) → g.D.Device.may_leave c.resize.new.self f → P f = λ f now.
    let from = c.resize.ensures.crash f now in
    resized_means file len f (omega (arith, s.end)) torn
    (subst (λ d. IsResized len d f) (s.durable from.0 from.1) from.2) in
    two g.D.Device.moment g.D.Device.left_since g.D.Device.may_leave g.met.D.Device.only_now device c.resize.new.self
    c.sync.new.self P here c.resize.ensures.time after c.sync.ensures.time c.sync.ensures.crash

pub returns-clause-text : goal.returns-clause-text
returns-clause-text g c =
    c.sync.ensures.seen ∙ c.in_ok-resize.ensures.resized
    ∙ cut_done (g.D.Device.seen c.args.self.now.device) c.args.self.now.end c.requires.end

pub returns-clause-settled : goal.returns-clause-settled
returns-clause-settled g c =
    let s = c.requires in
    let file = g.D.Device.seen c.args.self.now.device in
    let is = returns-clause-text g c in
    let text : committed (g.D.Device.seen c.sync.new.self) ≡ committed file = ap committed is ∙ committed-twice file in
    record {
      file = is ∙ sym text ∙ sym (append-nil (committed (g.D.Device.seen c.sync.new.self)));
      end = s.end ∙ ap length (sym text);
      durable =
          subst (λ f. IsOnlyOutcome f (g.D.Device.may_leave c.sync.new.self)) (sym c.sync.ensures.seen)
          c.in_ok-sync.ensures.durable;
      fits = omega (arith, s.fits);
      some = s.some;
      spare = s.spare;
    }
