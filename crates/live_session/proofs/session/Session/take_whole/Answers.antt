-- Answers of `Session::take_whole` (src/session.rt): what the prover left open; rt looks here.
use Rattle.std.proofs.Common.{refl, rules}
use Rattle.live_session.proofs.SessionLaws.{whole-line-answered}
use Rattle.live_session.proofs.session.Session.take_whole.Goals as goal

pub returns-then-is_plain : goal.returns-then-is_plain
returns-then-is_plain c = λ empty fine terms start lines given committed h.
    whole-line-answered c.answer_plain.result c.args.self.now _ terms start lines given committed c.args.line.now _ h
    (search rules) empty fine c.without_mark-record.ensures refl refl
    (c.answer_plain.ensures terms h.applied given committed h.gathers)
