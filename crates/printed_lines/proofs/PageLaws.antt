-- Texts that are made and put on a page one by one.
use Rattle.std.proofs.Common.{◌≡◌, ◌≤◌, ◌∙◌, ℕ, List, [], ◌∷◌, ◌++◌, ◌+◌, length, take, append_assoc, ap, refl, sym}
use Rattle.std.proofs.lemmas.List.{append-nil, take-take}
use Rattle.std.proofs.Math.Seq.{take-append-add}
use Rattle.printed_lines.specs.ReplyWords.{words_text}
use Rattle.printed_lines.specs.Tally.{entry_line, member_line, member_lines, history_lines_after}
use Rattle.printed_lines.proofs.Lists.{IsListText}

pub members-by-one : IsListText member_line member_lines
unfolding member_lines
members-by-one = record { none = λ before. refl; more = λ before calls rest. refl }

pub entries-by-one : IsListText (λ before entry. entry_line (before + 1) entry) history_lines_after
unfolding history_lines_after
entries-by-one = record { none = λ before. refl; more = λ before entry entries. refl }

-- the last of the texts was put on the page
pub put-last : (old new x : List ℕ) → new ≡ old ++ x → new ≡ old ++ words_text (x ∷ [])
put-last old new x e = e ∙ ap (λ t. old ++ t) (sym (append-nil x))

-- a text was put on the page before others
pub put-more : (old middle new x : List ℕ) (xs : List (List ℕ)) → middle ≡ old ++ x → new ≡ middle ++ words_text xs
    → new ≡ old ++ words_text (x ∷ xs)
put-more old middle new x xs e f = f ∙ ap (λ t. t ++ words_text xs) e ∙ append_assoc old x (words_text xs)

-- of the bytes that were put behind others, the first ones
pub put-beginning : (bytes front text : List ℕ) (from count room : ℕ) → take room bytes ≡ front ++ text
    → length front ≡ from → from + count ≤ room → take (from + count) bytes ≡ front ++ take count text
put-beginning bytes front text from count room put is within =
    sym (take-take (from + count) room bytes within) ∙ ap (take (from + count)) put
    ∙ ap (λ n. take (n + count) (front ++ text)) (sym is) ∙ take-append-add front text count
