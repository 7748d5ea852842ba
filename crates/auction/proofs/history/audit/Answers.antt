-- Answers of `audit` (src/history.rt): what the prover left open; rt looks here.
-- The first reply that is not the auction's own, and the next entry of a legal history.
use Rattle.std.proofs.Common.{◌∙◌, sym, subst, take, get_or, None, refl, arith}
use Rattle.std.proofs.lemmas.List.{take_more}
use Rattle.std.proofs.lemmas.Grind.{common_steps}
use Rattle.auction_terms.specs.declared.Entry.{Entry}
use Rattle.auction_terms.specs.declared.Side.TheVariants.{Bid}
use Rattle.auction_terms.specs.declared.Limit.TheVariants.{Market}
use Rattle.auction_terms.specs.declared.Restriction.TheVariants.{Unrestricted}
use Rattle.auction_terms.specs.declared.Command.TheVariants.{Enter}
use Rattle.auction_terms.specs.declared.Reply.TheVariants.{Entered}
use Rattle.auction.proofs.AuditLaws.{IsAudited, audited_more, bad_reply, full_at}
use Rattle.auction.proofs.history.audit.Goals as goal

no_entry : Entry
no_entry = record { member = 0; command = Enter Bid Unrestricted Market 0 None; reply = Entered 0 }

pub returns-then-not-is_same-clause-finding : goal.returns-then-not-is_same-clause-finding
unfolding no_entry
returns-then-not-is_same-clause-finding c =
    grind (
      arith,
      common_steps,
      no_entry,
      bad_reply,
      take_more,
      c.loop-place-test.true,
      c.loop-place.invariant,
      c.if-not-is_same.ensures.1,
      c.apply-reply.ensures.reply,
    )

pub loop-place-preserved : goal.loop-place-preserved
unfolding no_entry
loop-place-preserved c =
    let entries = c.args.entries.now in
    let place = c.loop-place.place in
    let entry = get_or entries place no_entry in
    subst (λ es. IsAudited c.args.config es c.apply-reply.new.self)
    (sym (take_more entries place no_entry c.loop-place-test.true))
    (audited_more c.args.config (take place entries) entry c.loop-place.auction c.apply-reply.new.self
    c.loop-place.invariant (sym c.if-is_full.ensures.value) c.apply-reply.ensures.state
    (c.if-not-is_same.ensures.0 refl ∙ c.apply-reply.ensures.reply))

pub returns-then-is_full-clause-finding : goal.returns-then-is_full-clause-finding
returns-then-is_full-clause-finding c = search (arith, full_at)
