-- Answers of `reply_texts_are_unique` (src/laws.rt): what the prover left open; rt looks here.
use Rattle.journal.proofs.ReplyTextLaws.{reply-same, reply-some}
use Rattle.journal.proofs.ReplyLengthLaws.{reply-fits}
use Rattle.journal.proofs.laws.reply_texts_are_unique.Goals as goal

pub returns : goal.returns
returns c = record {
  apart = λ r s hr hs e. reply-same r s hr.0 hr.1 hs.0 hs.1 e;
  texts =
      λ r h. (reply-some r, reply-fits r h);
}
