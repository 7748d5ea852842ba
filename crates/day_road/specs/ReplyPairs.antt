-- Recorded replies beside the lawful ones.
use Rattle.std.specs.Prelude.{ℕ, List, [], ◌∷◌}
use Rattle.auction_terms.specs.declared.Reply.{Reply}
use Rattle.auction_terms.specs.Day.{replay}
use Rattle.printed_lines.specs.ReplyWords.{reply_text}
use Rattle.journal.specs.JournalFile.{RecordedDay}
use Rattle.day_road.specs.Heard.{HeardEntry}

-- the recorded text of a reply, empty where none was recorded, and the text of the lawful one
pub record ReplyPair : Type 0 where
  pub recorded : List ℕ
  pub lawful : List ℕ

abbrev pub pair_of : List ℕ → Reply → ReplyPair
pair_of text reply = record { recorded = text; lawful = reply_text reply }

abbrev pub pairs : List (List ℕ) → List Reply → List ReplyPair
pairs [] replies = []
pairs (text ∷ texts) [] = []
pairs (text ∷ texts) (reply ∷ replies) = pair_of text reply ∷ pairs texts replies

-- each recorded text beside that of the replay's reply
abbrev pub pairs_in : RecordedDay → List ReplyPair
pairs_in j = pairs j.texts (replay j.day.config j.calls).1

-- the recorded text of what was heard beside the lawful one
abbrev pub pair_in : HeardEntry → ReplyPair
pair_in heard = pair_of heard.recording.text heard.reply
