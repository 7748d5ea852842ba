-- The words of commands.
use Rattle.std.specs.Prelude.{ℕ, List, Option, Some, None, if◌then◌else◌, codes}
use Rattle.std.specs.Str.{bytes_eq}
use Rattle.order_file.specs.declared.record.Word.{Word}
use Rattle.order_file.specs.declared.record.Word.TheVariants as word

unfoldable pub word_of : List ℕ → Option Word
word_of field =
    if bytes_eq field (codes "enter") then Some word.Enter
    else if bytes_eq field (codes "change") then Some word.Change
    else if bytes_eq field (codes "delete") then Some word.Delete
    else if bytes_eq field (codes "status") then Some word.OrderStatus
    else if bytes_eq field (codes "ask") then Some word.Indicate
    else if bytes_eq field (codes "trade") then Some word.ReadTrade
    else if bytes_eq field (codes "uncross") then Some word.Uncross
    else None
