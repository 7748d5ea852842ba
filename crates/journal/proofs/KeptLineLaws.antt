-- The lines of a journal that are kept entry by entry.
use Rattle.std.proofs.Common.{◌≡◌, ◌+◌, ◌++◌, ◌∷◌, [], ℕ, List, refl, ap, sym, ◌∙◌, append_assoc}
use Rattle.std.proofs.lemmas.List.{append-nil}
use Rattle.auction_terms.specs.declared.Entry.{Entry}
use Rattle.journal.specs.KeptLines.{HasEntryLines}
use Rattle.journal.specs.PrintedJournal.{call_line, call_lines}
use Rattle.journal.specs.WideReplies.{AreWide, IsWideReply}

one-line-more : (before : ℕ) (entries : List Entry) (entry : Entry) → call_lines before (entries ++ entry ∷ [])
    ≡ call_lines before entries ++ call_line entry
unfolding call_lines
one-line-more before [] entry = append-nil (call_line entry)
one-line-more before (e ∷ es) entry =
    ap (λ (t : List ℕ). call_line e ++ t) (one-line-more (before + 1) es entry)
    ∙ sym (append_assoc (call_line e) (call_lines (before + 1) es) (call_line entry))

one-wide-more : (entries : List Entry) (entry : Entry) → AreWide entries → IsWideReply entry.reply
    → AreWide (entries ++ entry ∷ [])
one-wide-more [] entry h wide = (wide, tt)
one-wide-more (e ∷ es) entry (first, rest) wide = (first, one-wide-more es entry rest wide)

-- one entry more
pub holds-more : (old new : List ℕ) (entries : List Entry) (entry : Entry) → new ≡ old ++ call_line entry
    → IsWideReply entry.reply
    → HasEntryLines old entries → HasEntryLines new (entries ++ entry ∷ [])
holds-more old new entries entry is wide (text, are_wide) = (
  is ∙ ap (λ (t : List ℕ). t ++ call_line entry) text ∙ sym (one-line-more 0 entries entry),
  one-wide-more entries entry are_wide wide,
)

-- no entry
pub holds-none : HasEntryLines [] []
unfolding call_lines
holds-none = (refl, tt)
