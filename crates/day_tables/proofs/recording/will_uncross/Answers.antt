-- Answers of `will_uncross` (src/recording.rt): what the prover left open; rt looks here.
use Rattle.std.proofs.Common.{is_some, sym, ap, ◌∙◌}
use Rattle.day_tables.proofs.UncrossLaws.{not_asked, not_operator, operator_asks}
use Rattle.day_tables.proofs.recording.will_uncross.Goals as goal

pub returns-then-not-is_uncross_command : goal.returns-then-not-is_uncross_command
returns-then-not-is_uncross_command c = not_asked _ _ c.args.call (sym c.if-not-is_uncross_command.ensures)

pub returns-then-call-ne0 : goal.returns-then-call-ne0
returns-then-call-ne0 c = not_operator _ _ c.args.call (sym c.if-not-is_uncross_command.ensures) c.if-call-ne0.true

pub returns : goal.returns
returns c =
    c.is_some.ensures ∙ ap (λ kind. is_some kind) c.current.ensures
    ∙ operator_asks _ _ c.args.call (sym c.if-not-is_uncross_command.ensures) c.if-call-ne0.false
