-- The text of a display that was put on a page.
use Rattle.std.specs.Prelude.{◌≡◌, ◌≤◌, ℕ, List, length, take, Option, IfSome}
use Rattle.auction_terms.specs.declared.Display.{Display}
use Rattle.auction_terms.specs.declared.Reply.TheVariants.{Indicated}
use Rattle.printed_lines.specs.ReplyWords.{reply_text}

-- the first `len` bytes are the text of the display, if there is one
abbrev pub IsTextOf : Option Display → List ℕ → ℕ → Type 0
IsTextOf display bytes len =
    (len ≤ length bytes) × IfSome display (λ d. take len bytes ≡ reply_text (Indicated d))
