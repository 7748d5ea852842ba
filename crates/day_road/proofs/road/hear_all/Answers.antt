-- Answers of `hear_all` (src/road.rt): what the prover left open; rt looks here.
use Rattle.std.proofs.Common.{◌<◌, ◌^◌, ◌∙◌, ap, arith, sym}
use Rattle.auction_terms.specs.Auxiliary.RunningAuction.{RunningAuction, auction_after_call}
use Rattle.day_road.specs.Heard.{recording_of}
use Rattle.day_road.proofs.HeardLaws.{came, hears-more, was_put}
use Rattle.journal.proofs.EntryLaws.{next-behind}
use Rattle.day_road.proofs.road.hear_all.Goals as goal

pub turns-preserved : goal.turns-preserved
turns-preserved g c =
    let inv = c.turns.invariant in
    let (front, is, all, holds) = inv.calls in
    let ready = rw c.in-Some.is at c.in_ok-call.ensures.ready in
    let falls = rw c.in-Some.is at c.in_ok-call.ensures.falls in
    let next = rw c.in-Some.is at c.in_ok-call.ensures.gives in
    let text = c.recorded.ensures in
    let r = recording_of c.in-Some.call c.recorded.result.now in
    let auction = c.before-in-Some.ensures.auction in
    let state = c.answer_call.ensures.state in
    let few : c.turns.auction.calls < 2 ^ 32 = omega (arith, c.calls-calls.ensures) in
    let listens = g.met.L.Listener in
    record {
      ready = ready;
      room = rw (state, auction) (omega (arith, inv.room, falls));
      config = rw (state, auction) inv.config;
      same =
          listens.becomes_on _ _ _ (listens.becomes_on _ _ _ inv.same c.before-in-Some.ensures.same)
          c.hear.ensures.same;
      calls = (
        _,
        came _ c.turns.auction _ front r
            (state ∙ ap (λ (a : RunningAuction). auction_after_call a c.in-Some.call) auction) is,
        next-behind front r _ _ _ all (rw (← text) at next),
        λ before begun. hears-more (λ a heard. g.L.Listener.Hears c.hear.new.self a heard) _ _ _ _ before front r is
            auction state
            (was_put _ (sym c.is_err-in-Some.ensures.value ∙ c.if-is_err-2.false)
            (c.hear.ensures.heard c.turns.auction _ few (rw auction at c.answer_call.ensures.reply)
            (was_put _ (sym c.is_err.ensures.value ∙ c.if-is_err.false)
            (c.before-in-Some.ensures.awaits _ c.recorded.result.now (holds before begun))))),
      );
    }
