-- The rule of the story, and what its steps report.
use Rattle.std.specs.Prelude.{ℕ, ◌≡◌, ◌==◌, true, List, [], ◌∷◌, ◌++◌, length, MatchBool}
use Rattle.logbook.specs.Pages.{Cell, Step, View, Book, Named}
use Rattle.auction_terms.specs.declared.Call.{Call}

-- the first word is the length of the story. A book has two words, of which this one leaves the second at 0
abbrev pub IsStory : List Cell → List Call → Type 0
IsStory cells log = cells ≡ (length log, true) ∷ (0, true) ∷ []

abbrev pub newest_name : Book → Named
newest_name b = record { tracked = true; key = 0; book = b }

-- the call was added to all that had been seen; or the story was longer, and was seen
abbrev pub AddsCall : Step Call → View Call ℕ → ℕ → View Call ℕ → Type 0
AddsCall s v found w = MatchBool (found == s.old) (w.0 ≡ v.0 ++ s.ask ∷ []) (length w.0 ≡ found)
