-- Answers of `hear` of `FirstUnlawful` (src/looking.rt): what the prover left open; rt looks here.
use Rattle.std.proofs.Common.{◌++◌, ◌∙◌, ℕ, List, ap, sym}
use Rattle.live_session.proofs.LookLaws.{look-found, look-lawful, look-unlawful}
use Rattle.live_session.proofs.looking.FirstUnlawfulListener.hear.Goals as goal

pub returns-then-is_some-clause-heard : goal.returns-then-is_some-clause-heard
returns-then-is_some-clause-heard c = λ auction heard few answered looks.
    look-found c.args.self.now auction heard c.args._call.now c.args.text.now c.args.reply.now answered looks
    (sym c.if-is_some.ensures)

pub returns-then-is_text_of-clause-heard : goal.returns-then-is_text_of-clause-heard
returns-then-is_text_of-clause-heard c = λ auction heard few answered looks.
    look-lawful c.args.self.now auction heard c.args._call.now c.args.text.now c.args.reply.now answered looks
    (sym c.if-is_some.ensures) (sym c.if-is_text_of.ensures)

pub returns-clause-heard : goal.returns-clause-heard
returns-clause-heard c = λ auction heard few answered looks.
    let text = c.args.text.now in
    look-unlawful c.args.self.now auction heard c.args._call.now text c.args.reply.now answered looks _
    (sym c.if-is_some.ensures) (sym c.if-is_text_of.ensures)
    (c.in_ok-extend_from_slice.ensures.items ∙ ap (λ (front : List ℕ). front ++ text) c.clear.ensures.items)
