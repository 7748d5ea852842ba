-- Answers of `take_turns` (src/run.rt): what the prover left open; rt looks here.
-- Of `take_turns`: each of its turns, in the form that `rt` wants.
use Rattle.std.proofs.Common.{◌≡◌, ◌++◌, List, [], ℕ, take, ap, arith, inl, inr, refl, subst, sym, ◌∙◌}
use Rattle.std.proofs.lemmas.List.{append-nil}
use Rattle.std.proofs.lemmas.Result.{err_from_is_err_and}
use Rattle.live_session.specs.Answered.{answered, answered_whole}
use Rattle.live_session.specs.Talk.{HasRead}
use Rattle.live_session.proofs.ResponderLaws.{IsBeginningOf, begins-same, begins-whole}
use Rattle.live_session.proofs.InputLineLaws.{take-short}
use Rattle.live_session.proofs.TurnLaws.{all-heard, breaks-giving, breaks-unanswered, ends-cut, ends-done, ends-ready}
use Rattle.live_session.proofs.TurnLaws.{gathers-emptied, has-answered, has-read, heard-more, just-read}
use Rattle.live_session.proofs.TurnLaws.{may-be-written, ready-first, reads-same}
use Rattle.live_session.proofs.run.take_turns.Goals as goal

pub turns-init : goal.turns-init
turns-init g c =
    let start = c.args.session.now.responder in (
      [],
      ready-first g.C.Conversation start.terms start.auction c.args.talk.now c.args.session.now
          (g.met.C.Conversation.becomes_itself c.args.talk.now) c.requires.begun,
    )

pub returns-in_default : goal.returns-in_default
returns-in_default g c =
    let start = c.args.session.now.responder in
    let (heard, ready) = c.turns.invariant in
    let r = c.in_default.ensures in
    ends-cut g.C.Conversation start.terms start.auction c.args.talk.now c.turns.talk c.read.new.self c.turns.session
    heard ready
    (g.met.C.Conversation.becomes_on _ _ _ ready.device.same r.same) r.bytes r.written r.committed r.failures r.writes
    r.commits

pub returns-in_default-end : goal.returns-in_default-end
returns-in_default-end g c =
    let start = c.args.session.now.responder in
    let (heard, ready) = c.turns.invariant in
    let r = c.in-Ok.ensures in
    let bytes = take c.in-Ok.count c.read.new.buffer in
    breaks-unanswered g.C.Conversation start.terms start.auction c.args.talk.now c.read.new.self heard bytes
    (just-read g.C.Conversation start.terms start.auction c.args.talk.now c.turns.talk c.read.new.self c.turns.session
    heard bytes ready
    (g.met.C.Conversation.becomes_on _ _ _ ready.device.same r.same) r.bytes.0 r.written r.committed r.failures r.writes
    r.commits
    (omega (arith, take-short c.in-Ok.count c.read.new.buffer, r.count)))

pub give-requires-clause-lines : goal.give-requires-clause-lines
give-requires-clause-lines g c =
    let (heard, ready) = c.turns.invariant in
    let gathers = c.in-Ok-end.ensures _ _ _ _ _ ready.all in (gathers.kept, gathers.lines)

pub give-requires-clause-writes : goal.give-requires-clause-writes
give-requires-clause-writes g c =
    let start = c.args.session.now.responder in
    let (heard, ready) = c.turns.invariant in
    let r = c.in-Ok.ensures in
    let bytes = take c.in-Ok.count c.read.new.buffer in
    let just =
    just-read g.C.Conversation start.terms start.auction c.args.talk.now c.turns.talk c.read.new.self
    c.turns.session heard bytes ready
    (g.met.C.Conversation.becomes_on _ _ _ ready.device.same r.same) r.bytes.0 r.written r.committed r.failures r.writes
    r.commits
    (omega (arith, take-short c.in-Ok.count c.read.new.buffer, r.count)) in
    let none : heard ++ bytes ≡ heard =
    ap (λ (n : ℕ). heard ++ take n c.read.new.buffer) c.if-count-eq0.true ∙ append-nil heard in
    λ now h. c.requires.writes now _
    (may-be-written g.C.Conversation start.terms start.auction c.args.talk.now c.read.new.self heard bytes
    c.end.new.self.responder
    (answered_whole start.terms start.auction heard) just (c.in-Ok-end.ensures _ _ _ _ _ ready.all)
    (λ d k. g.met.C.Conversation.becomes_on _ _ _ just.device.same k)
    (inr (ap (λ (h : List ℕ). answered_whole start.terms start.auction h) (sym none))) now h)

pub returns-in_err-give : goal.returns-in_err-give
returns-in_err-give g c =
    let start = c.args.session.now.responder in
    let (heard, ready) = c.turns.invariant in
    let r = c.in-Ok.ensures in
    let p = err_from_is_err_and c.from_residual.result c.from_residual.ensures.1 in
    let bytes = take c.in-Ok.count c.read.new.buffer in
    let just =
    just-read g.C.Conversation start.terms start.auction c.args.talk.now c.turns.talk c.read.new.self
    c.turns.session heard bytes ready
    (g.met.C.Conversation.becomes_on _ _ _ ready.device.same r.same) r.bytes.0 r.written r.committed r.failures r.writes
    r.commits
    (omega (arith, take-short c.in-Ok.count c.read.new.buffer, r.count)) in
    let none : heard ++ bytes ≡ heard =
    ap (λ (n : ℕ). heard ++ take n c.read.new.buffer) c.if-count-eq0.true ∙ append-nil heard in
    let answers = answered_whole start.terms start.auction heard in
    rw (p.1, p.2) (breaks-giving g.C.Conversation start.terms start.auction c.args.talk.now c.read.new.self heard
    bytes c.end.new.self.responder
    answers just (c.in-Ok-end.ensures _ _ _ _ _ ready.all)
    (λ d k. g.met.C.Conversation.becomes_on _ _ _ just.device.same k)
    (subst (λ (h : List ℕ). IsBeginningOf answers (answered_whole start.terms start.auction h)) (sym none)
    (begins-same answers))
    (inr (ap (λ (h : List ℕ). answered_whole start.terms start.auction h) (sym none)))
    c.give.new.talk c.give.new.self c.in_err-give.field-0.0 c.in_err-give.ensures)

pub returns-then-count-eq0 : goal.returns-then-count-eq0
returns-then-count-eq0 g c =
    let start = c.args.session.now.responder in
    let (heard, ready) = c.turns.invariant in
    let r = c.in-Ok.ensures in
    let bytes = take c.in-Ok.count c.read.new.buffer in
    let just =
    just-read g.C.Conversation start.terms start.auction c.args.talk.now c.turns.talk c.read.new.self
    c.turns.session heard bytes ready
    (g.met.C.Conversation.becomes_on _ _ _ ready.device.same r.same) r.bytes.0 r.written r.committed r.failures r.writes
    r.commits
    (omega (arith, take-short c.in-Ok.count c.read.new.buffer, r.count)) in
    let none : heard ++ bytes ≡ heard =
    ap (λ (n : ℕ). heard ++ take n c.read.new.buffer) c.if-count-eq0.true ∙ append-nil heard in
    let answers = answered_whole start.terms start.auction heard in
    let gathers = c.in-Ok-end.ensures _ _ _ _ _ ready.all in
    let on =
    λ (d : g.row.C.Denot) (k : g.C.Conversation.Becomes c.read.new.self d). g.met.C.Conversation.becomes_on _ _ _
    just.device.same k in
    let given = c.in_ok-give.ensures in
    rw c.ending.ensures (ends-done g.C.Conversation start.terms start.auction c.args.talk.now c.give.new.talk heard
    c.give.new.self _ _
    (subst (HasRead g.C.Conversation c.args.talk.now c.give.new.talk) none
    (has-read g.C.Conversation start.terms start.auction c.args.talk.now c.read.new.self heard bytes
    c.end.new.self.responder answers just gathers on
    c.give.new.talk given.0.unread))
    (rw given.0.unread.left (r.bytes.1 c.if-count-eq0.true (omega arith)))
    (has-answered g.C.Conversation start.terms start.auction c.args.talk.now c.read.new.self heard bytes
    c.end.new.self.responder answers just gathers on
    c.give.new.talk given.0)
    (reads-same g.C.Conversation start.terms start.auction c.args.talk.now c.read.new.self heard bytes
    c.end.new.self.responder answers just gathers on
    c.give.new.talk given.0.unread)
    (gathers-emptied _ _ start.terms answers _ _ gathers given.1))

pub returns-in_default-hear : goal.returns-in_default-hear
returns-in_default-hear g c =
    let start = c.args.session.now.responder in
    let (heard, ready) = c.turns.invariant in
    let r = c.in-Ok.ensures in
    let bytes = take c.in-Ok.count c.read.new.buffer in
    breaks-unanswered g.C.Conversation start.terms start.auction c.args.talk.now c.read.new.self heard bytes
    (just-read g.C.Conversation start.terms start.auction c.args.talk.now c.turns.talk c.read.new.self c.turns.session
    heard bytes ready
    (g.met.C.Conversation.becomes_on _ _ _ ready.device.same r.same) r.bytes.0 r.written r.committed r.failures r.writes
    r.commits
    (omega (arith, take-short c.in-Ok.count c.read.new.buffer, r.count)))

pub give-requires-in-turns-clause-lines : goal.give-requires-in-turns-clause-lines
give-requires-in-turns-clause-lines g c =
    let (heard, ready) = c.turns.invariant in
    let bytes = take c.in-Ok.count c.read.new.buffer in
    let all = heard-more _ _ _ heard bytes _ _ (c.in-Ok-hear.ensures _ _ _ _ _ (all-heard _ _ _ _ _ _ ready.all)) in
    (all.gathers.kept, all.gathers.lines)

pub give-requires-in-turns-clause-writes : goal.give-requires-in-turns-clause-writes
give-requires-in-turns-clause-writes g c =
    let start = c.args.session.now.responder in
    let (heard, ready) = c.turns.invariant in
    let r = c.in-Ok.ensures in
    let bytes = take c.in-Ok.count c.read.new.buffer in
    let just =
    just-read g.C.Conversation start.terms start.auction c.args.talk.now c.turns.talk c.read.new.self
    c.turns.session heard bytes ready
    (g.met.C.Conversation.becomes_on _ _ _ ready.device.same r.same) r.bytes.0 r.written r.committed r.failures r.writes
    r.commits
    (omega (arith, take-short c.in-Ok.count c.read.new.buffer, r.count)) in
    let all = heard-more _ _ _ heard bytes _ _ (c.in-Ok-hear.ensures _ _ _ _ _ (all-heard _ _ _ _ _ _ ready.all)) in
    λ now h. c.requires.writes now _
    (may-be-written g.C.Conversation start.terms start.auction c.args.talk.now c.read.new.self heard bytes
    c.hear.new.self.responder
    (answered start.terms start.auction (heard ++ bytes)) just all.gathers
    (λ d k. g.met.C.Conversation.becomes_on _ _ _ just.device.same k) (inl refl) now h)

pub returns-in_err-give-2 : goal.returns-in_err-give-2
returns-in_err-give-2 g c =
    let start = c.args.session.now.responder in
    let (heard, ready) = c.turns.invariant in
    let r = c.in-Ok.ensures in
    let p = err_from_is_err_and c.from_residual-in_err-give-2.result c.from_residual-in_err-give-2.ensures.1 in
    let bytes = take c.in-Ok.count c.read.new.buffer in
    let just =
    just-read g.C.Conversation start.terms start.auction c.args.talk.now c.turns.talk c.read.new.self
    c.turns.session heard bytes ready
    (g.met.C.Conversation.becomes_on _ _ _ ready.device.same r.same) r.bytes.0 r.written r.committed r.failures r.writes
    r.commits
    (omega (arith, take-short c.in-Ok.count c.read.new.buffer, r.count)) in
    let all = heard-more _ _ _ heard bytes _ _ (c.in-Ok-hear.ensures _ _ _ _ _ (all-heard _ _ _ _ _ _ ready.all)) in
    rw (p.1, p.2) (breaks-giving g.C.Conversation start.terms start.auction c.args.talk.now c.read.new.self heard
    bytes c.hear.new.self.responder
    (answered start.terms start.auction (heard ++ bytes)) just all.gathers
    (λ d k. g.met.C.Conversation.becomes_on _ _ _ just.device.same k)
    (begins-whole start.terms start.auction (heard ++ bytes)) (inl refl) c.give-in-turns.new.talk
    c.give-in-turns.new.self
    c.in_err-give-2.field-0.0 c.in_err-give-2.ensures)

pub turns-preserved : goal.turns-preserved
turns-preserved g c =
    let start = c.args.session.now.responder in
    let (heard, ready) = c.turns.invariant in
    let r = c.in-Ok.ensures in
    let bytes = take c.in-Ok.count c.read.new.buffer in
    let just =
    just-read g.C.Conversation start.terms start.auction c.args.talk.now c.turns.talk c.read.new.self
    c.turns.session heard bytes ready
    (g.met.C.Conversation.becomes_on _ _ _ ready.device.same r.same) r.bytes.0 r.written r.committed r.failures r.writes
    r.commits
    (omega (arith, take-short c.in-Ok.count c.read.new.buffer, r.count)) in
    let all = heard-more _ _ _ heard bytes _ _ (c.in-Ok-hear.ensures _ _ _ _ _ (all-heard _ _ _ _ _ _ ready.all)) in
    let answers = answered start.terms start.auction (heard ++ bytes) in
    let on =
    λ (d : g.row.C.Denot) (k : g.C.Conversation.Becomes c.read.new.self d). g.met.C.Conversation.becomes_on _ _ _
    just.device.same k in
    let given = c.in_ok-give-2.ensures in (
      heard ++ bytes,
      record {
        device =
            has-read g.C.Conversation start.terms start.auction c.args.talk.now c.read.new.self heard bytes
            c.hear.new.self.responder answers just
            all.gathers on c.give-in-turns.new.talk given.0.unread;
        all = record {
          gathers = gathers-emptied _ _ start.terms answers _ _ all.gathers given.1;
          waiting = all.waiting;
          line = all.line;
        };
        answered =
            has-answered g.C.Conversation start.terms start.auction c.args.talk.now c.read.new.self heard bytes
            c.hear.new.self.responder answers just
            all.gathers on c.give-in-turns.new.talk given.0;
        reads =
            reads-same g.C.Conversation start.terms start.auction c.args.talk.now c.read.new.self heard bytes
            c.hear.new.self.responder answers just
            all.gathers on c.give-in-turns.new.talk given.0.unread;
      },
    )

pub returns : goal.returns
returns g c =
    let start = c.args.session.now.responder in
    let (heard, ready) = c.turns.invariant in
    ends-ready g.C.Conversation start.terms start.auction c.args.talk.now c.turns.talk c.turns.session heard ready
