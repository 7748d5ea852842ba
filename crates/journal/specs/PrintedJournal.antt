-- The text of a journal, in the order in which it is printed.
use Rattle.std.specs.Prelude.{ℕ, ◌+◌, List, [], ◌∷◌, ◌++◌, codes, decimal}
use Rattle.auction_terms.specs.declared.Config.{Config}
use Rattle.auction_terms.specs.declared.Entry.{Entry}
use Rattle.printed_lines.specs.ReplyWords.{reply_text}
use Rattle.journal.specs.CallFields.{command_fields, number_field}
use Rattle.journal.specs.declared.day.DayHeader.{DayHeader}

-- fields, each with a comma before it
abbrev pub comma_fields : List (List ℕ) → List ℕ
comma_fields [] = []
comma_fields (field ∷ fields) = 44 ∷ (field ++ comma_fields fields)

abbrev pub call_line : Entry → List ℕ
call_line entry =
    decimal entry.member
    ++ (comma_fields (command_fields entry.command) ++ (44 ∷ (reply_text entry.reply ++ (10 ∷ []))))

abbrev pub ticks_text : Config → List ℕ
ticks_text config = 44 ∷ (decimal config.low ++ (44 ∷ (decimal config.high ++ (44 ∷ decimal config.reference))))

abbrev pub sizes_text : DayHeader → List ℕ
sizes_text day =
    44 ∷ (decimal day.members ++ (44 ∷ (decimal day.config.max_open ++ (44 ∷ (decimal day.config.max_calls
    ++ (44 ∷ number_field day.config.range))))))

abbrev pub day_line : DayHeader → List ℕ
day_line day = codes "day" ++ (ticks_text day.config ++ (sizes_text day ++ (10 ∷ [])))

unfoldable pub call_lines : ℕ → List Entry → List ℕ
call_lines before [] = []
call_lines before (entry ∷ entries) = call_line entry ++ call_lines (before + 1) entries
