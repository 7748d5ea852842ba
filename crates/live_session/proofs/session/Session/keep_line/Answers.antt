-- Answers of `Session::keep_line` (src/session.rt): what the prover left open; rt looks here.
-- Of `Session::keep_line`: one more line waits, in the form that `rt` wants.
use Rattle.std.proofs.Common.{◌++◌, ◌∷◌, [], List, ℕ, ap, refl, rules, ◌∙◌}
use Rattle.csv.specs.Reading.{strip_bom}
use Rattle.live_session.proofs.SessionLaws.{kept-line}
use Rattle.live_session.proofs.session.Session.keep_line.Goals as goal

pub returns : goal.returns
returns c = λ fine terms start lines given committed h.
    kept-line c.args.self.now _ terms start lines lines given committed _ h refl h.line fine refl
    (c.in_ok-put_record.ensures
    ∙ ap (λ (x : List ℕ). (c.args.self.now.waiting.items ++ strip_bom x) ++ 10 ∷ []) c.as_slice.ensures.value)
    (search rules)
