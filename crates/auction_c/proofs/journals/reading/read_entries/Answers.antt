-- Answers of `read_entries` (src/journals/reading.rt): what the prover left open; rt looks here.
use Rattle.std.proofs.Common.{[], ap, refl, sym}
use Rattle.auction_terms.specs.Auxiliary.RunningAuction.{RunningAuction}
use Rattle.journal.proofs.EntryLaws.{fails-alike}
use Rattle.journal.specs.JournalEntries.{day_left, entries_left}
use Rattle.auction_c.proofs.JournalFoundLaws.{counts-within, read-all}
use Rattle.day_road.proofs.HeardLaws.{open-none}
use Rattle.auction_c.proofs.journals.reading.read_entries.Goals as goal

pub told-requires-clause-compared : goal.told-requires-clause-compared
told-requires-clause-compared c =
    let none = sym (ap (λ (a : RunningAuction). a.calls) c.in-Ok.ensures.opening) in
    let (rs, coming, came, heard) = c.in-Ok-hear_all.ensures.heard [] (c.new-comparison.ensures, none) in
    rw c.calls.ensures.value (counts-within c.hear_all.new.listener c.hear_all.new.auction _ heard).compared

pub told-requires-clause-unlawful : goal.told-requires-clause-unlawful
told-requires-clause-unlawful c =
    let none = sym (ap (λ (a : RunningAuction). a.calls) c.in-Ok.ensures.opening) in
    let (rs, coming, came, heard) = c.in-Ok-hear_all.ensures.heard [] (c.new-comparison.ensures, none) in
    rw c.calls.ensures.value (counts-within c.hear_all.new.listener c.hear_all.new.auction _ heard).unlawful

pub told-requires-clause-first : goal.told-requires-clause-first
told-requires-clause-first c =
    let none = sym (ap (λ (a : RunningAuction). a.calls) c.in-Ok.ensures.opening) in
    let (rs, coming, came, heard) = c.in-Ok-hear_all.ensures.heard [] (c.new-comparison.ensures, none) in
    rw c.calls.ensures.value (counts-within c.hear_all.new.listener c.hear_all.new.auction _ heard).first

pub returns-in-Ok-hear_all : goal.returns-in-Ok-hear_all
returns-in-Ok-hear_all c =
    let none = sym (ap (λ (a : RunningAuction). a.calls) c.in-Ok.ensures.opening) in
    read-all c.args.entries.now c.hear_all.new.listener c.in-Ok.auction c.hear_all.new.auction _ c.calls.result
    (rw c.day-day.ensures at c.in-Ok.ensures.opening)
    (open-none _ _ (rw c.day-day.ensures at c.in-Ok.ensures.refused))
    (c.in-Ok-hear_all.ensures.heard [] (c.new-comparison.ensures, none)) c.calls.ensures.value
    (rw c.day-day.ensures at c.told.ensures)

pub returns-in-Err-hear_all : goal.returns-in-Err-hear_all
returns-in-Err-hear_all c =
    let none = sym (ap (λ (a : RunningAuction). a.calls) c.in-Ok.ensures.opening) in
    c.refuse.ensures (day_left c.args.entries.now)
    (fails-alike c.in-Err-hear_all.fault (entries_left c.args.entries.now) (day_left c.args.entries.now)
    (λ e. rw e refl)
    (c.in-Err-hear_all.ensures.heard [] (c.new-comparison.ensures, none)))
