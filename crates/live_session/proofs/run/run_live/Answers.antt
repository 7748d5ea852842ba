-- Answers of `run_live` (src/run.rt): what the prover left open; rt looks here.
use Rattle.std.proofs.Common.{refl}
use Rattle.live_session.proofs.TurnLaws.{ends-unheard}
use Rattle.live_session.proofs.run.run_live.Goals as goal

pub returns-in_default : goal.returns-in_default
returns-in_default g c =
    ends-unheard g.C.Conversation c.args.terms c.args.auction c.args.talk.now
    (g.met.C.Conversation.becomes_itself c.args.talk.now)

pub take_turns-requires-clause-begun : goal.take_turns-requires-clause-begun
take_turns-requires-clause-begun g c =
    let new = c.in-Ok.ensures in
    record {
      responder = record {
        terms_are = refl;
        auction = refl;
        records_are = new.responder.records_are;
        ending = new.responder.ending;
        answers = new.responder.answers;
        entries = new.responder.entries;
      };
      waiting = new.waiting;
      line = new.line;
    }

pub take_turns-requires-clause-reads : goal.take_turns-requires-clause-reads
take_turns-requires-clause-reads g c =
    let new = c.in-Ok.ensures in rw (new.responder.terms_are, new.responder.auction) c.requires.reads

pub take_turns-requires-clause-writes : goal.take_turns-requires-clause-writes
take_turns-requires-clause-writes g c =
    let new = c.in-Ok.ensures in rw (new.responder.terms_are, new.responder.auction) c.requires.writes

pub returns : goal.returns
returns g c =
    let new = c.in-Ok.ensures in rw (new.responder.terms_are, new.responder.auction) at c.take_turns.ensures
