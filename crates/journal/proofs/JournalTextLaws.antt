-- The text of a journal, piece by piece.
use Rattle.std.proofs.Common.{◌≡◌, ◌+◌, ◌++◌, ◌∷◌, [], ℕ, List, refl, ap, sym, append_assoc, map, decimal}
use Rattle.auction_terms.specs.declared.Entry.{Entry}
use Rattle.printed_lines.specs.ReplyWords.{reply_text}
use Rattle.journal.specs.declared.day.DayHeader.{DayHeader}
use Rattle.journal.specs.CallFields.{command_fields}
use Rattle.journal.specs.DayRecord.{day_fields}
use Rattle.journal.specs.EntryRecord.{recorded_call_fields}
use Rattle.journal.specs.JournalText.{journal_text, recorded_call_by, recorded_journal}
use Rattle.journal.specs.PlainLines.{fields_to_line_end, record_line, record_lines}
use Rattle.journal.specs.PrintedJournal.{call_line, call_lines, day_line, comma_fields}

-- fields, and then one more and the end of the line
field-put : (fields : List (List ℕ)) (field : List ℕ) → fields_to_line_end (fields ++ (field ∷ []))
    ≡ comma_fields fields ++ (44 ∷ (field ++ (10 ∷ [])))
unfolding fields_to_line_end
field-put [] field = refl
field-put (f ∷ fs) field =
    rw (field-put fs field)
    (ap (λ (t : List ℕ). 44 ∷ t) (sym (append_assoc f (comma_fields fs) (44 ∷ (field ++ (10 ∷ []))))))

line-of-call : (entry : Entry) → record_line (recorded_call_fields (recorded_call_by entry)) ≡ call_line entry
unfolding record_line recorded_call_fields
line-of-call entry =
    ap (λ (t : List ℕ). decimal entry.member ++ t) (field-put (command_fields entry.command) (reply_text entry.reply))

line-of-day : (day : DayHeader) → record_line (day_fields day) ≡ day_line day
unfolding record_line fields_to_line_end day_fields
line-of-day day = simp append_assoc

lines-of-calls : (before : ℕ) (entries : List Entry)
    → record_lines (map recorded_call_fields (map recorded_call_by entries)) ≡ call_lines before entries
unfolding record_lines call_lines
lines-of-calls before [] = refl
lines-of-calls before (e ∷ es) = rw (lines-of-calls (before + 1) es, line-of-call e) refl

pub text-by-lines : (day : DayHeader) (entries : List Entry) → journal_text day entries ≡ day_line day
    ++ call_lines 0 entries
unfolding recorded_journal record_lines
text-by-lines day entries = rw (lines-of-calls 0 entries, line-of-day day) refl
