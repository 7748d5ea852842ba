-- Answers of `apply_each` (src/applying.rt): what the prover left open; rt looks here.
-- What is left to do at the loop's end, or at an error, is nothing.
use Rattle.std.proofs.Common.{sym, ap, arith}
use Rattle.auction_c.specs.Calling.{ApplyAllResult}
use Rattle.auction_c.proofs.ManyLaws.{applied_some}
use Rattle.auction_c.proofs.applying.apply_each.Goals as goal

pub returns-then-error-ne-DONE-clause-auction : goal.returns-then-error-ne-DONE-clause-auction
returns-then-error-ne-DONE-clause-auction c =
    let whole =
    applied_some c.args.reserve c.args.auction.now c.args.commands.now c.args.replies.now c.loop-i.i c.loop-i.auction
    c.loop-i.replies _ _ c.apply_one-error.result c.apply_one-error.new.auction c.apply_one-error.new.reply
    c.loop-i.invariant.0 (omega (arith, c.loop-i-test.true))
    (omega (arith, c.loop-i-test.true, c.loop-i.invariant.1, c.requires)) c.if-error-ne-DONE.true
    c.apply_one-error.ensures.error c.apply_one-error.ensures.auction c.apply_one-error.ensures.reply in
    sym (ap (λ (o : ApplyAllResult). o.auction) whole)

pub returns-then-error-ne-DONE-clause-replies : goal.returns-then-error-ne-DONE-clause-replies
returns-then-error-ne-DONE-clause-replies c =
    let whole =
    applied_some c.args.reserve c.args.auction.now c.args.commands.now c.args.replies.now c.loop-i.i c.loop-i.auction
    c.loop-i.replies _ _ c.apply_one-error.result c.apply_one-error.new.auction c.apply_one-error.new.reply
    c.loop-i.invariant.0 (omega (arith, c.loop-i-test.true))
    (omega (arith, c.loop-i-test.true, c.loop-i.invariant.1, c.requires)) c.if-error-ne-DONE.true
    c.apply_one-error.ensures.error c.apply_one-error.ensures.auction c.apply_one-error.ensures.reply in
    sym (ap (λ (o : ApplyAllResult). o.replies) whole)
