-- Invariants of the loops of `Session::take_all` (src/session.rt); rt looks here.
-- Of `Session::take_all`: what its loop keeps, in the form that `rt` wants.
use Rattle.std.proofs.Common.{◌≡◌, List, ℕ, length}
use Rattle.auction_terms.specs.declared.Entry.{Entry}
use Rattle.auction_terms.specs.Auxiliary.RunningAuction.{RunningAuction}
use Rattle.live_session.specs.Hearing.{HasHeard}
use Rattle.live_session.specs.InputLines.{Lines, lines_once_read}
use Rattle.live_session.specs.declared.terms.SessionTerms.{SessionTerms}
use Rattle.live_session.proofs.session.Session.take_all.Given as goal

-- the lines so far, and those of the bytes that are left, are all
abbrev pub invariant-lines : goal.invariant-lines
invariant-lines l =
    (terms : SessionTerms) (start : RunningAuction) (lines : Lines) (given : List ℕ) (committed : List Entry)
    → HasHeard l.fn.self terms start lines given committed
    → (now : Lines) × HasHeard l.self terms start now given committed
    × (lines_once_read now l.rest ≡ lines_once_read lines l.fn.bytes)

abbrev pub decreases-lines : goal.decreases-lines
decreases-lines l = length l.rest
