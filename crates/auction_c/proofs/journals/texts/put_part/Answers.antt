-- Answers of `put_part` (src/journals/texts.rt): what the prover left open; rt looks here.
use Rattle.std.proofs.Common.{refl}
use Rattle.auction_c.proofs.JournalLineLaws.{part-put}
use Rattle.auction_c.proofs.journals.texts.put_part.Goals as goal

pub returns : goal.returns
returns c = rw c.copy_from_slice.ensures.after (part-put _ _ c.args.text.now c.args.part.now refl)
