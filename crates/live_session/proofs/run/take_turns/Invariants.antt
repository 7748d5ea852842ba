-- Invariants of the loops of `take_turns` (src/run.rt); rt looks here.
-- Of `take_turns`: what its loop keeps, in the form that `rt` wants.
use Rattle.std.proofs.Common.{List, ℕ}
use Rattle.live_session.proofs.TurnLaws.{IsReadyToRead}
use Rattle.live_session.proofs.run.take_turns.Given as goal

-- all that has come is answered
abbrev pub invariant-turns : goal.invariant-turns
invariant-turns g l = (heard : List ℕ)
    × IsReadyToRead g.C.Conversation l.fn.session.responder.terms l.fn.session.responder.auction l.fn.talk l.talk
    l.session heard
