-- The lines of replies, one by one.
use Rattle.std.proofs.Common.{◌≡◌, ◌≤◌, ◌+◌, ℕ, List, [], ◌∷◌, ◌++◌, length, append_assoc, ◌∙◌, sym, arith}
use Rattle.std.proofs.lemmas.List.{append-nil}
use Rattle.auction_terms.specs.declared.Reply.{Reply}
use Rattle.printed_lines.specs.ReplyLines.{line, lines_after}

-- the next reply comes first of those that are left
pub reply-next : (left rest : List Reply) (front all : List ℕ) (place : ℕ) (next : Reply)
    → front ++ lines_after place left ≡ all → left ≡ next ∷ rest
    → front ++ (line (place + 1) next ++ lines_after (place + 1) rest) ≡ all
unfolding lines_after
reply-next left rest front all place next e is = rw is at e

-- its line was printed
pub reply-done : (left rest : List Reply) (front all : List ℕ) (place : ℕ) (next : Reply)
    → front ++ lines_after place left ≡ all → left ≡ next ∷ rest
    → (front ++ line (place + 1) next) ++ lines_after (place + 1) rest ≡ all
reply-done left rest front all place next e is =
    append_assoc front _ _ ∙ reply-next left rest front all place next e is

-- and the rest of the `count` are left
pub reply-count : (left rest : List Reply) (place count : ℕ) (next : Reply) → place + length left ≡ count
    → left ≡ next ∷ rest → (place + 1) + length rest ≡ count
reply-count left rest place count next e is = let longer = rw is at e in omega (arith, longer)

-- no reply is left
pub reply-end : (left : List Reply) (front all : List ℕ) (place : ℕ)
    → front ++ lines_after place left ≡ all → place + length left ≤ place → front ≡ all
unfolding lines_after
reply-end [] front all place e h = sym (append-nil front) ∙ e
reply-end (next ∷ rest) front all place e h = absurd (omega arith)
