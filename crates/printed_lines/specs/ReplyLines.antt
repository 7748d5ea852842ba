-- The printed lines of a run.
use Rattle.std.specs.Prelude.{ℕ, ◌+◌, List, [], ◌∷◌, ◌++◌, codes, decimal}
use Rattle.auction_terms.specs.declared.Reply.{Reply}
use Rattle.printed_lines.specs.ReplyWords.{reply_text}

-- the line of a command, by its number
unfoldable pub line : ℕ → Reply → List ℕ
line number r = decimal number ++ (codes ": " ++ (reply_text r ++ codes "\n"))

-- the lines of replies after the first `before`
unfoldable pub lines_after : ℕ → List Reply → List ℕ
lines_after before [] = []
lines_after before (r ∷ rs) = line (before + 1) r ++ lines_after (before + 1) rs

-- the lines of replies, numbered from 1
abbrev pub lines : List Reply → List ℕ
lines replies = lines_after 0 replies
