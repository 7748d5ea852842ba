-- The lines of a journal that are kept until they are printed.
use Rattle.std.specs.Prelude.{◌≡◌, ℕ, List}
use Rattle.auction_terms.specs.declared.Entry.{Entry}
use Rattle.journal.specs.PrintedJournal.{call_lines}
use Rattle.journal.specs.WideReplies.{AreWide}

-- the lines of these entries, each number of whose replies is below 2 ^ 64
abbrev pub HasEntryLines : List ℕ → List Entry → Type 0
HasEntryLines text entries = (text ≡ call_lines 0 entries) × AreWide entries
