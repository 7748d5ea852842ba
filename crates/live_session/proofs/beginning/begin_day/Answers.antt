-- Answers of `begin_day` (src/beginning.rt): what the prover left open; rt looks here.
use Rattle.std.proofs.Common.{◌≡◌, [], List, ℕ, refl, sym, ◌∙◌, ap, subst}
use Rattle.journal.specs.JournalText.{journal_text}
use Rattle.journal_file.specs.Committed.{committed}
use Rattle.live_session.specs.Begun.{AddsLines, IsLeftByBegin, LacksLines, opening_lines}
use Rattle.live_session.proofs.BegunSessionLaws.{adds-behind, cause-by-error, lacks-behind, is-left-by-begin, may-begin}
use Rattle.live_session.proofs.BegunSessionLaws.{not-repaired-new, torn-end-of-first}
use Rattle.live_session.proofs.JournaledPromiseLaws.{day-few, day-lines}
use Rattle.live_session.proofs.beginning.begin_day.Goals as goal

pub repair-requires-clause-torn : goal.repair-requires-clause-torn
repair-requires-clause-torn g c =
    let file = g.D.Device.seen c.args.device in
    let left : IsLeftByBegin c.args.day file =
    is-left-by-begin c.args.day file c.args.bytes.now c.as_slice.result.now c.requires.read
    (c.as_slice.ensures.value ∙ c.in-Ok.ensures) (c.is_left_by_begin.ensures.0 c.if-not-is_left_by_begin.false) in
    torn-end-of-first (journal_text c.args.day []) file (day-few c.args.day) left.1

pub returns-in-Err-clause-refused : goal.returns-in-Err-clause-refused
returns-in-Err-clause-refused g c =
    let file = g.D.Device.seen c.args.device in
    let left =
    is-left-by-begin c.args.day file c.args.bytes.now c.as_slice.result.now c.requires.read
    (c.as_slice.ensures.value ∙ c.in-Ok.ensures) (c.is_left_by_begin.ensures.0 c.if-not-is_left_by_begin.false) in
    not-repaired-new g.D.Device c.args.day c.args.device c.in-Err.not_begun.device c.in-Err.not_begun.fault
    c.requires.new_day left c.in-Err.ensures.lacks

pub commit-requires-clause-short : goal.commit-requires-clause-short
commit-requires-clause-short g c =
    day-lines c.args.day c.as_slice-2.result.now (c.as_slice-2.ensures.value ∙ c.in-Ok.ensures)

pub returns-in-Ok-commit-clause-begun : goal.returns-in-Ok-commit-clause-begun
returns-in-Ok-commit-clause-begun g c =
    let d = g.D.Device in
    let file = d.seen c.args.device in
    let lines = c.as_slice-2.result.now in
    let lines_are = c.as_slice-2.ensures.value ∙ c.in-Ok.ensures in
    let left =
    is-left-by-begin c.args.day file c.args.bytes.now c.as_slice.result.now c.requires.read
    (c.as_slice.ensures.value ∙ c.in-Ok.ensures) (c.is_left_by_begin.ensures.0 c.if-not-is_left_by_begin.false) in
    let adds : AddsLines d c.args.device c.commit.new.self.device lines =
    adds-behind d c.args.device c.in-Ok-repair.journal.device c.commit.new.self.device lines
    c.in-Ok-repair.ensures.lines c.in-Ok-commit.ensures.committed (λ _. c.commit.ensures.any_moment) in
    record {
      settled = c.in-Ok-commit.ensures.settled;
      new_day = λ _. (
        left,
        c.requires.opened,
        refl,
        subst (λ (l : List ℕ). AddsLines d c.args.device c.commit.new.self.device l) lines_are adds,
      );
      gone_on = λ some. absurd (some c.requires.new_day);
    }

pub returns-in-Err-commit-clause-refused : goal.returns-in-Err-commit-clause-refused
returns-in-Err-commit-clause-refused g c =
    let d = g.D.Device in
    let file = d.seen c.args.device in
    let mid = c.in-Ok-repair.journal in
    let last = c.commit.new.self.device in
    let lines = c.as_slice-2.result.now in
    let error = c.in-Err-commit.error in
    let lines_are : lines ≡ journal_text c.args.day [] = c.as_slice-2.ensures.value ∙ c.in-Ok.ensures in
    let opening : lines ≡ opening_lines c.args.day (committed file) =
    lines_are ∙ sym (ap (opening_lines c.args.day) c.requires.new_day) in
    let left =
    is-left-by-begin c.args.day file c.args.bytes.now c.as_slice.result.now c.requires.read
    (c.as_slice.ensures.value ∙ c.in-Ok.ensures) (c.is_left_by_begin.ensures.0 c.if-not-is_left_by_begin.false) in
    let cause =
    cause-by-error d mid.device last mid.end lines error c.in-Ok-repair.ensures.settled.end
    c.in-Err-commit.ensures.failed
    c.in-Err-commit.ensures.changed c.in-Err-commit.ensures.full in
    let lacks : LacksLines d c.args.device last lines error =
    lacks-behind d c.args.device mid.device last lines error c.in-Ok-repair.ensures.lines
    c.in-Ok-repair.ensures.causes cause (λ _. c.commit.ensures.any_moment) in (
      may-begin c.args.day file c.requires.new_day left,
      subst (λ (l : List ℕ). LacksLines d c.args.device last l error) opening lacks,
    )
