-- What an audit finds of an entry, and what it counts.
use Rattle.std.specs.Prelude.{ℕ, ◌+◌, List, [], ◌∷◌, Option, Some, None, if◌then◌else◌}
use Rattle.std.specs.Str.{bytes_eq}
use Rattle.day_road.specs.ReplyPairs.{ReplyPair}
use Rattle.day_audit.specs.declared.counts.Counts.{Counts}
use Rattle.day_audit.specs.declared.counts.Finding.{Finding}
use Rattle.day_audit.specs.declared.counts.Finding.TheVariants.{Lawful, Silent, Unlawful}

abbrev pub finding : List ℕ → List ℕ → Finding
finding [] lawful = Silent
finding (b ∷ bs) lawful = if bytes_eq (b ∷ bs) lawful then Lawful else Unlawful

-- what is found of an entry: it is compared where a reply was recorded
abbrev pub finding_of : ReplyPair → Finding
finding_of a = finding a.recorded a.lawful

-- ---- counted

abbrev pub no_counts : Counts
no_counts = record { entries = 0; compared = 0; unlawful = 0; first_unlawful = None }

abbrev pub first_or : Option ℕ → ℕ → Option ℕ
first_or (Some first) place = Some first
first_or None place = Some place

-- with one more entry
abbrev pub counts_with : Counts → Finding → Counts
counts_with c Silent = record c { entries = c.entries + 1 }
counts_with c Lawful = record c { entries = c.entries + 1; compared = c.compared + 1 }
counts_with c Unlawful = record {
  entries = c.entries + 1;
  compared = c.compared + 1;
  unlawful = c.unlawful + 1;
  first_unlawful = first_or c.first_unlawful c.entries;
}

-- with these entries too
abbrev pub counts_with_all : Counts → List ReplyPair → Counts
counts_with_all c [] = c
counts_with_all c (a ∷ rest) = counts_with_all (counts_with c (finding_of a)) rest

abbrev pub counts_of : List ReplyPair → Counts
counts_of pairs = counts_with_all no_counts pairs
