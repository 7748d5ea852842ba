-- Answers of `keep_entry` (src/kept.rt): what the prover left open; rt looks here.
use Rattle.std.proofs.Common.{◌∙◌, ◌++◌, ℕ, List, ap, append_assoc, sym}
use Rattle.journal.specs.PrintedJournal.{call_line}
use Rattle.journal.proofs.KeptLineLaws.{holds-more}
use Rattle.journal.proofs.kept.keep_entry.Goals as goal

pub returns : goal.returns
returns c = λ entries holds.
    let line = call_line c.args.entry in
    let put = ap (λ (page : List ℕ). c.make_room.new.self.full.items ++ page) c.put_entry.ensures in
    let kept = ap (λ (text : List ℕ). text ++ line) c.in_ok-make_room.ensures.text in
    holds-more _ _ entries c.args.entry (put ∙ sym (append_assoc _ _ line) ∙ kept) c.see_reply.ensures holds
