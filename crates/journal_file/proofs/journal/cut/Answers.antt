-- Answers of `cut` (src/journal.rt): what the prover left open; rt looks here.
use Rattle.std.proofs.Common.{List, ℕ, refl, sym, ◌∙◌, ap, subst, arith}
use Rattle.journal_file.specs.Device.{IsResized}
use Rattle.journal_file.specs.Committed.{committed, Means}
use Rattle.journal_file.proofs.Lines.{committed-twice}
use Rattle.journal_file.proofs.Moments.{one, two}
use Rattle.journal_file.proofs.Crash.{resized_means, cut_done}
use Rattle.journal_file.proofs.journal.cut.Goals as goal

pub returns-in_err-resize-clause-any_moment : goal.returns-in_err-resize-clause-any_moment
returns-in_err-resize-clause-any_moment g c =
    let device = c.args.device.now in
    let file = g.D.Device.seen device in
    let len = c.args.end in
    let P = Means (committed file) in
    let here : (f : List ℕ) → g.D.Device.may_leave device f → P f = λ f now.
    subst P (sym (c.requires.durable f now)) (refl, c.requires.torn) in
    let after : (f : List ℕ) → g.D.Device.may_leave c.resize.new.self f → P f = λ f now.
    let from = c.resize.ensures.crash f now in
    resized_means file len f (omega (arith, c.requires.end)) c.requires.torn
    (subst (λ d. IsResized len d f) (c.requires.durable from.0 from.1) from.2) in
    one g.D.Device.moment g.D.Device.left_since g.D.Device.may_leave g.met.D.Device.only_now device c.resize.new.self P
    here c.resize.ensures.time after

pub returns-in_err-sync-clause-any_moment : goal.returns-in_err-sync-clause-any_moment
returns-in_err-sync-clause-any_moment g c =
    let device = c.args.device.now in
    let file = g.D.Device.seen device in
    let len = c.args.end in
    let P = Means (committed file) in
    let here : (f : List ℕ) → g.D.Device.may_leave device f → P f = λ f now.
    subst P (sym (c.requires.durable f now)) (refl, c.requires.torn) in
    let after : (f : List ℕ) → g.D.Device.may_leave c.resize.new.self f → P f = λ f now.
    let from = c.resize.ensures.crash f now in
    resized_means file len f (omega (arith, c.requires.end)) c.requires.torn
    (subst (λ d. IsResized len d f) (c.requires.durable from.0 from.1) from.2) in
    two g.D.Device.moment g.D.Device.left_since g.D.Device.may_leave g.met.D.Device.only_now device c.resize.new.self
    c.sync.new.self P here c.resize.ensures.time after c.sync.ensures.time c.sync.ensures.crash

pub returns-clause-any_moment : goal.returns-clause-any_moment
returns-clause-any_moment g c =
    let device = c.args.device.now in
    let file = g.D.Device.seen device in
    let len = c.args.end in
    let P = Means (committed file) in
    let here : (f : List ℕ) → g.D.Device.may_leave device f → P f = λ f now.
    subst P (sym (c.requires.durable f now)) (refl, c.requires.torn) in
    let after : (f : List ℕ) → g.D.Device.may_leave c.resize.new.self f → P f = λ f now.
    let from = c.resize.ensures.crash f now in
    resized_means file len f (omega (arith, c.requires.end)) c.requires.torn
    (subst (λ d. IsResized len d f) (c.requires.durable from.0 from.1) from.2) in
    two g.D.Device.moment g.D.Device.left_since g.D.Device.may_leave g.met.D.Device.only_now device c.resize.new.self
    c.sync.new.self P here c.resize.ensures.time after c.sync.ensures.time c.sync.ensures.crash

pub returns-clause-file : goal.returns-clause-file
returns-clause-file g c =
    c.sync.ensures.seen ∙ c.in_ok-resize.ensures.resized
    ∙ cut_done (g.D.Device.seen c.args.device.now) c.args.end c.requires.end

pub returns-clause-same : goal.returns-clause-same
returns-clause-same g c =
    ap committed (returns-clause-file g c) ∙ committed-twice (g.D.Device.seen c.args.device.now)
