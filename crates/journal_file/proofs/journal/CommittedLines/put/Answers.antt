-- Answers of `CommittedLines::put` (src/journal.rt): what the prover left open; rt looks here.
use Rattle.std.proofs.Common.{◌-◌, ◌++◌, List, ℕ, length, replicate, sym, ◌∙◌, ap, subst, arith, length-append, refl}
use Rattle.std.proofs.lemmas.List.{append-nil}
use Rattle.journal_file.specs.Device.{IsTorn, IsOnlyOutcome}
use Rattle.journal_file.specs.Committed.{committed, IsBegun}
use Rattle.journal_file.proofs.Moments.{one, two}
use Rattle.journal_file.proofs.TornEnds.{torn-end-room}
use Rattle.journal_file.proofs.Crash.{torn_lines, written_lines, committed-text, committed-both}
use Rattle.journal_file.proofs.journal.CommittedLines.put.Goals as goal

pub returns-in_err-write_at-clause-any_moment : goal.returns-in_err-write_at-clause-any_moment
returns-in_err-write_at-clause-any_moment g c =
    let s = c.requires.settled in
    let device = c.args.self.now.device in
    let file = g.D.Device.seen device in
    let P = IsBegun (committed file) c.args.lines.now in
    let torn = torn-end-room file (committed file) c.args.self.now.room s.file refl in
    let here : (f : List ℕ) → g.D.Device.may_leave device f → P f =
    λ f now. subst P (sym (s.durable f now)) (0, (sym (append-nil (committed file)), torn)) in
    let after : (f : List ℕ) → g.D.Device.may_leave c.write_at.new.self f → P f = λ f now.
    let from = c.write_at.ensures.crash f now in
    torn_lines file c.args.self.now.end c.args.self.now.room s.file s.end c.args.lines.now c.requires.room
    c.requires.few f
    (subst (λ d. IsTorn c.args.self.now.end c.args.lines.now d f) (s.durable from.0 from.1) from.2) in
    one g.D.Device.moment g.D.Device.left_since g.D.Device.may_leave g.met.D.Device.only_now device c.write_at.new.self
    P here c.write_at.ensures.time after

pub returns-in_err-sync-clause-any_moment : goal.returns-in_err-sync-clause-any_moment
returns-in_err-sync-clause-any_moment g c =
    let s = c.requires.settled in
    let device = c.args.self.now.device in
    let file = g.D.Device.seen device in
    let P = IsBegun (committed file) c.args.lines.now in
    let torn = torn-end-room file (committed file) c.args.self.now.room s.file refl in
    let here : (f : List ℕ) → g.D.Device.may_leave device f → P f =
    λ f now. subst P (sym (s.durable f now)) (0, (sym (append-nil (committed file)), torn)) in
    let after : (f : List ℕ) → g.D.Device.may_leave c.write_at.new.self f → P f = λ f now.
    let from = c.write_at.ensures.crash f now in
    torn_lines file c.args.self.now.end c.args.self.now.room s.file s.end c.args.lines.now c.requires.room
    c.requires.few f
    (subst (λ d. IsTorn c.args.self.now.end c.args.lines.now d f) (s.durable from.0 from.1) from.2) in
    two g.D.Device.moment g.D.Device.left_since g.D.Device.may_leave g.met.D.Device.only_now device c.write_at.new.self
    c.sync.new.self P here c.write_at.ensures.time after c.sync.ensures.time c.sync.ensures.crash

pub returns-clause-any_moment : goal.returns-clause-any_moment
returns-clause-any_moment g c =
    let s = c.requires.settled in
    let device = c.args.self.now.device in
    let file = g.D.Device.seen device in
    let P = IsBegun (committed file) c.args.lines.now in
    let torn = torn-end-room file (committed file) c.args.self.now.room s.file refl in
    let here : (f : List ℕ) → g.D.Device.may_leave device f → P f =
    λ f now. subst P (sym (s.durable f now)) (0, (sym (append-nil (committed file)), torn)) in
    let after : (f : List ℕ) → g.D.Device.may_leave c.write_at.new.self f → P f = λ f now.
    let from = c.write_at.ensures.crash f now in
    torn_lines file c.args.self.now.end c.args.self.now.room s.file s.end c.args.lines.now c.requires.room
    c.requires.few f
    (subst (λ d. IsTorn c.args.self.now.end c.args.lines.now d f) (s.durable from.0 from.1) from.2) in
    two g.D.Device.moment g.D.Device.left_since g.D.Device.may_leave g.met.D.Device.only_now device c.write_at.new.self
    c.sync.new.self P here c.write_at.ensures.time after c.sync.ensures.time c.sync.ensures.crash

pub returns-clause-committed : goal.returns-clause-committed
returns-clause-committed g c =
    let s = c.requires.settled in
    let file = g.D.Device.seen c.args.self.now.device in
    let lines = c.args.lines.now in
    let is =
    c.sync.ensures.seen ∙ written_lines file c.args.self.now.end c.args.self.now.room s.file s.end lines
    c.requires.room c.requires.few _ c.in_ok-write_at.ensures.written in
    ap committed is ∙ committed-text (committed file ++ lines) (c.args.self.now.room - length lines)
    (committed-both file lines c.requires.whole)

pub returns-clause-settled : goal.returns-clause-settled
returns-clause-settled g c =
    let s = c.requires.settled in
    let file = g.D.Device.seen c.args.self.now.device in
    let lines = c.args.lines.now in
    let is =
    c.sync.ensures.seen ∙ written_lines file c.args.self.now.end c.args.self.now.room s.file s.end lines
    c.requires.room c.requires.few _ c.in_ok-write_at.ensures.written in
    let text = returns-clause-committed g c in
    record {
      file = is ∙ ap (λ (l : List ℕ). l ++ replicate (c.args.self.now.room - length lines) 0) (sym text);
      end = omega (arith, s.end, ap length text, length-append (committed file) lines);
      durable =
          subst (λ f. IsOnlyOutcome f (g.D.Device.may_leave c.sync.new.self)) (sym c.sync.ensures.seen)
          c.in_ok-sync.ensures.durable;
      fits = omega (arith, s.fits, c.requires.room);
      some = s.some;
      spare = s.spare;
    }
