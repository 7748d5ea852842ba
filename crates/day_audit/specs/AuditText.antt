-- What an audit prints.
use Rattle.std.specs.Prelude.{ℕ, ◌+◌, List, [], ◌∷◌, ◌++◌, codes, decimal}
use Rattle.printed_lines.specs.Tally.{audit_line, entries_line}
use Rattle.day_road.specs.ReplyPairs.{ReplyPair}
use Rattle.day_audit.specs.declared.counts.Counts.{Counts}
use Rattle.day_audit.specs.declared.counts.Finding.{Finding}
use Rattle.day_audit.specs.declared.counts.Finding.TheVariants.{Lawful, Silent, Unlawful}
use Rattle.day_audit.specs.AuditCounts.{counts_of, finding_of}

-- the number of an entry, and a quote before its recorded reply
abbrev pub recorded_words : ℕ → List ℕ
recorded_words number = decimal number ++ (codes ": recorded " ++ (34 ∷ []))

-- the quote after it, and the lawful reply in quotes
abbrev pub lawful_words : List ℕ → List ℕ
lawful_words lawful = 34 ∷ (codes ", lawful " ++ (34 ∷ (lawful ++ (34 ∷ codes "\n"))))

abbrev pub difference_line : ℕ → ReplyPair → List ℕ
difference_line number a = recorded_words number ++ (a.recorded ++ lawful_words a.lawful)

-- a line of an entry that is unlawful
abbrev pub difference : ℕ → ReplyPair → Finding → List ℕ
difference number a Unlawful = difference_line number a
difference number a Lawful = []
difference number a Silent = []

-- the lines of the entries after the first `before`
unfoldable pub differences : ℕ → List ReplyPair → List ℕ
differences before [] = []
differences before (a ∷ rest) = difference (before + 1) a (finding_of a) ++ differences (before + 1) rest

unfoldable pub compared_line : ℕ → List ℕ
compared_line compared = codes "compared " ++ (decimal compared ++ codes "\n")

unfoldable pub unlawful_line : ℕ → List ℕ
unlawful_line unlawful = codes "unlawful " ++ (decimal unlawful ++ codes "\n")

abbrev pub counts_text : Counts → List ℕ
counts_text c =
    entries_line c.entries ++ (compared_line c.compared ++ (unlawful_line c.unlawful ++ audit_line c.first_unlawful))

-- a line for each difference, and then what was counted
abbrev pub audit_text : List ReplyPair → List ℕ
audit_text pairs = differences 0 pairs ++ counts_text (counts_of pairs)
