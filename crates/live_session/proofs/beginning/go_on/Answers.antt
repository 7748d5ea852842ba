-- Answers of `go_on` (src/beginning.rt): what the prover left open; rt looks here.
use Rattle.std.proofs.Common.{[], List, ℕ, length, refl, sym, ◌∙◌, ap, subst, arith}
use Rattle.journal_file.specs.Committed.{HasTornEnd, IsTextLen, behind_lines}
use Rattle.journal_file.proofs.Crash.{text_fits}
use Rattle.live_session.proofs.BegunSessionLaws.{adds-behind, front-lines, lacks-more, can-go-on, not-repaired-on}
use Rattle.live_session.proofs.BegunSessionLaws.{put-aside-behind, still-stored}
use Rattle.live_session.proofs.beginning.go_on.Goals as goal

pub split_at-requires : goal.split_at-requires
split_at-requires g c =
    omega (arith, c.requires.end, ap length c.requires.read, text_fits (g.D.Device.seen c.args.device))

pub returns-in-Err-clause-refused : goal.returns-in-Err-clause-refused
returns-in-Err-clause-refused g c =
    let file = g.D.Device.seen c.args.device in
    let lines_are =
    c.split_at.ensures.front ∙ front-lines file c.args.bytes.now c.args.end c.requires.read c.requires.end in
    let read = c.in-Err.ensures.read (λ empty. c.requires.lines (sym lines_are ∙ empty)) in
    (refl, c.requires.lines, rw (← lines_are) read)

pub returns-then-count-gt-LONGEST_WRITE-clause-refused : goal.returns-then-count-gt-LONGEST_WRITE-clause-refused
returns-then-count-gt-LONGEST_WRITE-clause-refused g c =
    let file = g.D.Device.seen c.args.device in
    let count = c.torn_len-count.result in
    let lines_are =
    c.split_at.ensures.front ∙ front-lines file c.args.bytes.now c.args.end c.requires.read c.requires.end in
    let read = c.in-Ok.ensures.read (λ empty. c.requires.lines (sym lines_are ∙ empty)) in (
      refl,
      c.requires.lines,
      record {
        auction = c.in-Ok.auction;
        read = rw (← lines_are) read;
        number = omega arith;
        behind = subst (λ (l : List ℕ). IsTextLen (behind_lines l) count) c.requires.read c.torn_len-count.ensures.len;
        torn =
            λ torn. let few = c.torn_len-count.ensures.torn.1 (subst HasTornEnd (sym c.requires.read) torn) in
            omega (arith, few, c.if-count-gt-LONGEST_WRITE.true);
      },
    )

pub returns-in-Err-put_aside-clause-refused : goal.returns-in-Err-put_aside-clause-refused
returns-in-Err-put_aside-clause-refused g c =
    let d = g.D.Device in
    let file = d.seen c.args.device in
    let lines_are =
    c.split_at.ensures.front ∙ front-lines file c.args.bytes.now c.args.end c.requires.read c.requires.end in
    let read = c.in-Ok.ensures.read (λ empty. c.requires.lines (sym lines_are ∙ empty)) in
    let torn : HasTornEnd file =
    subst HasTornEnd c.requires.read (c.torn_len-count.ensures.torn.0 c.if-count-gt-LONGEST_WRITE.false) in (
      can-go-on c.args.day file c.in-Ok.auction c.requires.lines torn (rw (← lines_are) read),
      lacks-more d c.args.device c.put_aside.new.device _ c.in-Err-put_aside.error c.in-Err-put_aside.ensures.lacks,
    )

pub returns-in-Ok-repair-clause-begun : goal.returns-in-Ok-repair-clause-begun
returns-in-Ok-repair-clause-begun g c =
    let d = g.D.Device in
    let file = d.seen c.args.device in
    let lines_are =
    c.split_at.ensures.front ∙ front-lines file c.args.bytes.now c.args.end c.requires.read c.requires.end in
    let read = c.in-Ok.ensures.read (λ empty. c.requires.lines (sym lines_are ∙ empty)) in
    let torn : HasTornEnd file =
    subst HasTornEnd c.requires.read (c.torn_len-count.ensures.torn.0 c.if-count-gt-LONGEST_WRITE.false) in
    let mid = c.put_aside.new.device in
    let last = c.in-Ok-repair.journal.device in
    let put = c.in-Ok-put_aside.ensures in
    let still = still-stored d c.args.device mid c.put_aside.ensures.seen c.put_aside.ensures.crash in
    record {
      settled = c.in-Ok-repair.ensures.settled;
      new_day = λ empty. absurd (c.requires.lines empty);
      gone_on = λ _. (
        rw (← lines_are) read,
        torn,
        put-aside-behind d c.args.device mid last c.in-Ok-put_aside.cut c.in-Ok-repair.ensures.aside put.aside,
        adds-behind d c.args.device mid last [] put.adds c.in-Ok-repair.ensures.lines.all
            (λ stored. c.in-Ok-repair.ensures.lines.leaves (still stored)),
      );
    }

pub returns-in-Err-repair-clause-refused : goal.returns-in-Err-repair-clause-refused
returns-in-Err-repair-clause-refused g c =
    let d = g.D.Device in
    let file = d.seen c.args.device in
    let lines_are =
    c.split_at.ensures.front ∙ front-lines file c.args.bytes.now c.args.end c.requires.read c.requires.end in
    let read = c.in-Ok.ensures.read (λ empty. c.requires.lines (sym lines_are ∙ empty)) in
    let torn : HasTornEnd file =
    subst HasTornEnd c.requires.read (c.torn_len-count.ensures.torn.0 c.if-count-gt-LONGEST_WRITE.false) in
    let mid = c.put_aside.new.device in
    let put = c.in-Ok-put_aside.ensures in
    let still = still-stored d c.args.device mid c.put_aside.ensures.seen c.put_aside.ensures.crash in
    not-repaired-on d c.args.day c.args.device mid c.in-Err-repair.not_begun.device c.in-Err-repair.not_begun.fault
    (can-go-on c.args.day file c.in-Ok.auction c.requires.lines torn (rw (← lines_are) read)) put.adds
    c.put_aside.ensures.causes still c.in-Err-repair.ensures.lacks
