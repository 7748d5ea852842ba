-- The lines of a table, one by one, and their fields.
use Rattle.std.proofs.Common.{◌≡◌, ◌<◌, ◌+◌, ◌++◌, ℕ, List, [], ◌∷◌, map, drop, get_or, length, refl, ap, ◌∙◌}
use Rattle.std.proofs.Common.{◌-◌, length-drop, suc}
use Rattle.auction_terms.specs.declared.Trade.{Trade}
use Rattle.printed_lines.specs.ReplyWords.{words_text}
use Rattle.printed_lines.proofs.Lists.{IsListText, text-done}
use Rattle.auction_views.specs.TableLines.{trade_line, trade_lines}

pub lines-by-one : {X : Type 0} (line : X → List ℕ)
    → IsListText (λ before x. line x) (λ before xs. words_text (map line xs))
lines-by-one line = record { none = λ before. refl; more = λ before x xs. refl }

pub trades-by-one : IsListText (λ before trade. trade_line (before + 1) trade)
    (λ before trades. words_text (trade_lines before trades))
unfolding trade_lines
trades-by-one = record { none = λ before. refl; more = λ before trade trades. refl }

-- one more was put after a text
pub line-put : {X : Type 0} (one : ℕ → X → List ℕ) (texts : ℕ → List X → List ℕ) → IsListText one texts
    → (xs : List X) (now after all : List ℕ) (i : ℕ) (d : X)
    → now ++ texts i (drop i xs) ≡ all → i < length xs → after ≡ now ++ one i (get_or xs i d)
    → after ++ texts (i + 1) (drop (i + 1) xs) ≡ all
line-put one texts is xs now after all i d e h put =
    ap (λ t. t ++ texts (i + 1) (drop (i + 1) xs)) put ∙ text-done one texts is xs now all i d e h

line-count : (before : ℕ) (trades : List Trade) → length (trade_lines before trades) ≡ length trades
unfolding trade_lines
line-count before [] = refl
line-count before (trade ∷ trades) = ap suc (line-count (before + 1) trades)

-- there is a line for each trade after the first `before`
pub trades_counted : (before : ℕ) (tape : List Trade)
    → length (trade_lines before (drop before tape)) ≡ length tape - before
trades_counted before tape = line-count before (drop before tape) ∙ length-drop before tape
