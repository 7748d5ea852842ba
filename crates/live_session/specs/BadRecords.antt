-- What is answered to a record that isn't a call.
use Rattle.std.specs.Prelude.{ℕ, List, [], ◌++◌, Option, Some, None, codes, decimal}
use Rattle.input_hints.specs.Hints.{hint_text}
use Rattle.input_hints.specs.declared.hint.Hint.{Hint}
use Rattle.order_file.specs.declared.fault.RecordFault.{RecordFault}
use Rattle.order_file.specs.declared.fault.RecordFault.TheVariants as record_fault
use Rattle.live_session.specs.declared.fault.BadRecord.{BadRecord}
use Rattle.live_session.specs.declared.fault.BadRecord.TheVariants as bad

abbrev pub record_fault_words : RecordFault → List ℕ
record_fault_words record_fault.BadMember = codes "bad member"
record_fault_words record_fault.BadCommand = codes "bad command"
record_fault_words record_fault.BadCount = codes "wrong number of fields"
record_fault_words (record_fault.BadField field) = codes "bad field " ++ decimal field

abbrev pub bad_record_words : BadRecord → List ℕ
bad_record_words (bad.Malformed fault) = record_fault_words fault
bad_record_words bad.TooManyCommands = codes "too many commands"
bad_record_words bad.Reserved = codes "calls are reserved for the operator"
bad_record_words bad.TooLong = codes "record too long"
bad_record_words bad.OpenQuote = codes "quote not closed"
bad_record_words bad.CutOff = codes "cut off"

-- the likely cause, after a colon
abbrev pub cause_words : Option Hint → List ℕ
cause_words None = []
cause_words (Some cause) = codes ": " ++ hint_text cause

-- the line of a bad record, by its number in the input
unfoldable pub bad_record_line : ℕ → BadRecord → Option Hint → List ℕ
bad_record_line number fault cause =
    codes "record " ++ (decimal number ++ (codes ": " ++ (bad_record_words fault ++ (cause_words cause ++ codes "\n"))))
