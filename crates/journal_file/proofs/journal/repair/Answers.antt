-- Answers of `repair` (src/journal.rt): what the prover left open; rt looks here.
use Rattle.std.proofs.Common.{◌≡◌, List, ℕ, refl, sym, subst}
use Rattle.journal_file.specs.Committed.{committed, Means}
use Rattle.journal_file.proofs.Moments.{then, weaker}
use Rattle.journal_file.proofs.journal.repair.Goals as goal

pub returns-in_err-settle-clause-any_moment : goal.returns-in_err-settle-clause-any_moment
returns-in_err-settle-clause-any_moment g c stored =
    let device = c.args.device.now in
    let file = g.D.Device.seen device in
    let same : (f : List ℕ) → f ≡ file → Means (committed file) f = λ f is.
    subst (Means (committed file)) (sym is) (refl, c.requires.torn) in
    weaker g.D.Device.moment g.D.Device.left_since device c.settle.new.device (λ f. f ≡ file) (Means (committed file))
    (c.settle.ensures.any_moment stored) same

pub returns-clause-any_moment : goal.returns-clause-any_moment
returns-clause-any_moment g c stored =
    let device = c.args.device.now in
    let file = g.D.Device.seen device in
    let mid = c.settle.new.device in
    let same : (f : List ℕ) → f ≡ file → Means (committed file) f = λ f is.
    subst (Means (committed file)) (sym is) (refl, c.requires.torn) in
    let as_before : (f : List ℕ) → Means (committed (g.D.Device.seen mid)) f → Means (committed file) f = λ f means.
    subst (λ (l : List ℕ). Means (committed l) f) c.in_ok-settle.ensures.seen means in
    then g.D.Device.moment g.D.Device.left_since device mid c.cut.new.device (λ f. f ≡ file)
    (Means (committed (g.D.Device.seen mid))) (Means (committed file)) (c.settle.ensures.any_moment stored)
    c.cut.ensures.any_moment same as_before
