-- Answers of `settle` (src/journal.rt): what the prover left open; rt looks here.
use Rattle.std.proofs.Common.{◌≡◌, List, ℕ, length, take, ◌∙◌, ap, arith}
use Rattle.journal_file.proofs.Moments.{one, two}
use Rattle.journal_file.proofs.Crash.{text_fits, torn_same, written_same}
use Rattle.journal_file.proofs.journal.settle.Goals as goal

pub split_at-requires : goal.split_at-requires
split_at-requires g c =
    let file = g.D.Device.seen c.args.device.now in
    omega (arith, c.requires.end, ap length c.requires.read, text_fits file)

pub returns-in_err-write_at-clause-any_moment : goal.returns-in_err-write_at-clause-any_moment
returns-in_err-write_at-clause-any_moment g c stored =
    let device = c.args.device.now in
    let file = g.D.Device.seen device in
    let P : List ℕ → Type 0 = λ f. f ≡ file in
    let lines = c.split_at.ensures.front ∙ ap (λ (l : List ℕ). take c.args.end l) c.requires.read in
    let after : (f : List ℕ) → g.D.Device.may_leave c.write_at.new.self f → P f = λ f now.
    let from = c.write_at.ensures.crash f now in
    torn_same file _ from.0 f c.args.end lines (stored from.0 from.1) from.2 in
    one g.D.Device.moment g.D.Device.left_since g.D.Device.may_leave g.met.D.Device.only_now device c.write_at.new.self
    P stored c.write_at.ensures.time after

pub returns-in_err-sync-clause-any_moment : goal.returns-in_err-sync-clause-any_moment
returns-in_err-sync-clause-any_moment g c stored =
    let device = c.args.device.now in
    let file = g.D.Device.seen device in
    let P : List ℕ → Type 0 = λ f. f ≡ file in
    let lines = c.split_at.ensures.front ∙ ap (λ (l : List ℕ). take c.args.end l) c.requires.read in
    let after : (f : List ℕ) → g.D.Device.may_leave c.write_at.new.self f → P f = λ f now.
    let from = c.write_at.ensures.crash f now in
    torn_same file _ from.0 f c.args.end lines (stored from.0 from.1) from.2 in
    two g.D.Device.moment g.D.Device.left_since g.D.Device.may_leave g.met.D.Device.only_now device c.write_at.new.self
    c.sync.new.self P stored c.write_at.ensures.time after c.sync.ensures.time c.sync.ensures.crash

pub returns-clause-any_moment : goal.returns-clause-any_moment
returns-clause-any_moment g c stored =
    let device = c.args.device.now in
    let file = g.D.Device.seen device in
    let P : List ℕ → Type 0 = λ f. f ≡ file in
    let lines = c.split_at.ensures.front ∙ ap (λ (l : List ℕ). take c.args.end l) c.requires.read in
    let after : (f : List ℕ) → g.D.Device.may_leave c.write_at.new.self f → P f = λ f now.
    let from = c.write_at.ensures.crash f now in
    torn_same file _ from.0 f c.args.end lines (stored from.0 from.1) from.2 in
    two g.D.Device.moment g.D.Device.left_since g.D.Device.may_leave g.met.D.Device.only_now device c.write_at.new.self
    c.sync.new.self P stored c.write_at.ensures.time after c.sync.ensures.time c.sync.ensures.crash

pub returns-clause-seen : goal.returns-clause-seen
returns-clause-seen g c =
    let file = g.D.Device.seen c.args.device.now in
    let lines = c.split_at.ensures.front ∙ ap (λ (l : List ℕ). take c.args.end l) c.requires.read in
    c.sync.ensures.seen
    ∙ written_same file _ _ c.args.end lines (omega (arith, c.requires.end, text_fits file))
    c.in_ok-write_at.ensures.written
