-- Answers of `keep_day` (src/kept.rt): what the prover left open; rt looks here.
use Rattle.std.proofs.Common.{◌≡◌, ◌∙◌, ◌++◌, [], ℕ, List, ap, append_assoc, sym}
use Rattle.std.proofs.lemmas.List.{append-nil}
use Rattle.printed_lines.specs.KeptText.{kept_text}
use Rattle.journal.specs.JournalText.{journal_text}
use Rattle.journal.specs.PrintedJournal.{call_lines, day_line}
use Rattle.journal.proofs.JournalTextLaws.{text-by-lines}
use Rattle.journal.proofs.kept.keep_day.Goals as goal

pub returns : goal.returns
unfolding call_lines
returns c =
    let line = day_line c.args.day in
    let put = ap (λ (page : List ℕ). c.make_room.new.self.full.items ++ page) c.put_day.ensures in
    let kept = ap (λ (text : List ℕ). text ++ line) c.in_ok-make_room.ensures.text in
    let whole : journal_text c.args.day [] ≡ line = text-by-lines c.args.day [] ∙ append-nil line in
    put ∙ sym (append_assoc _ _ line) ∙ kept ∙ ap (λ (text : List ℕ). kept_text c.args.lines.now ++ text) (sym whole)
