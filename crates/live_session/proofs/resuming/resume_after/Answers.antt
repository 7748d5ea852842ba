-- Answers of `resume_after` (src/resuming.rt): what the prover left open; rt looks here.
use Rattle.std.proofs.Common.{[], ap, refl}
use Rattle.auction_terms.specs.Auxiliary.RunningAuction.{RunningAuction}
use Rattle.journal.specs.JournalEntries.{day_left, entries_left}
use Rattle.journal.proofs.EntryLaws.{fails-alike}
use Rattle.live_session.proofs.LookLaws.{resumed-ill, resumed-well}
use Rattle.live_session.proofs.ResumeLaws.{never_a_journal}
use Rattle.live_session.proofs.resuming.resume_after.Goals as goal

pub returns-in-Err : goal.returns-in-Err
returns-in-Err c =
    let begun = c.new-first.ensures c.args.auction (ap (λ (a : RunningAuction). a.calls) c.requires.opened) in
    never_a_journal c.args.day _ c.in-Err.fault
    (fails-alike c.in-Err.fault (entries_left c.args.entries.now) (day_left c.args.entries.now) (λ e. rw e refl)
    (c.in-Err.ensures.heard [] begun)) c.in-Err.ensures.parsed

pub returns-in-None : goal.returns-in-None
returns-in-None c =
    let begun = c.new-first.ensures c.args.auction (ap (λ (a : RunningAuction). a.calls) c.requires.opened) in
    resumed-well c.args.day c.args.entries.now c.hear_all.new.listener c.args.auction c.hear_all.new.auction
    c.requires.opened c.requires.same (c.in_default.ensures.heard [] begun) c.in-None.is

pub returns-in-Some : goal.returns-in-Some
returns-in-Some c =
    let begun = c.new-first.ensures c.args.auction (ap (λ (a : RunningAuction). a.calls) c.requires.opened) in
    resumed-ill c.args.day c.args.entries.now c.hear_all.new.listener c.args.auction c.hear_all.new.auction
    c.in-Some.entry c.requires.opened c.requires.same (c.in_default.ensures.heard [] begun) c.in-Some.is
