-- What is printed of a closed floor: its tally, and its history.
use Rattle.std.specs.Prelude.{ℕ, ◌+◌, List, [], ◌∷◌, ◌++◌, Option, Some, None, codes, decimal}
use Rattle.auction_terms.specs.declared.Entry.{Entry}
use Rattle.printed_lines.specs.ReplyWords.{reply_text}

unfoldable pub entries_line : ℕ → List ℕ
entries_line entries = codes "entries " ++ (decimal entries ++ codes "\n")

unfoldable pub member_line : ℕ → ℕ → List ℕ
member_line member calls = codes "member " ++ (decimal member ++ (codes " calls " ++ (decimal calls ++ codes "\n")))

-- the lines of members after the first `before`, by their counts of calls
unfoldable pub member_lines : ℕ → List ℕ → List ℕ
member_lines before [] = []
member_lines before (calls ∷ rest) = member_line before calls ++ member_lines (before + 1) rest

-- what the audit says: legal, or the place from 0 of the first entry that breaks the rules
unfoldable pub audit_line : Option ℕ → List ℕ
audit_line None = codes "audit legal\n"
audit_line (Some place) = codes "audit bad " ++ (decimal place ++ codes "\n")

-- how many entries there are, how many calls each member made, and what the audit says
unfoldable pub tally : ℕ → List ℕ → Option ℕ → List ℕ
tally entries calls first_bad = entries_line entries ++ (member_lines 0 calls ++ audit_line first_bad)

-- the line of an entry of the history, by its number
unfoldable pub entry_line : ℕ → Entry → List ℕ
entry_line number entry =
    decimal number ++ (codes ": member " ++ (decimal entry.member
    ++ (codes " " ++ (reply_text entry.reply ++ codes "\n"))))

-- the lines of entries after the first `before`
unfoldable pub history_lines_after : ℕ → List Entry → List ℕ
history_lines_after before [] = []
history_lines_after before (entry ∷ entries) = entry_line (before + 1) entry ++ history_lines_after (before + 1) entries

-- the lines of a history, numbered from 1
abbrev pub history_lines : List Entry → List ℕ
history_lines entries = history_lines_after 0 entries
