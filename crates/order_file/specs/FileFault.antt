-- The faults of an order file: their texts, and those of a record.
use Rattle.std.specs.Prelude.{ℕ, List, ◌++◌, codes, decimal}
use Rattle.order_file.specs.declared.fault.FileFault.{FileFault}
use Rattle.order_file.specs.declared.fault.FileFault.TheVariants as file
use Rattle.order_file.specs.declared.fault.RecordFault.{RecordFault}
use Rattle.order_file.specs.declared.fault.RecordFault.TheVariants as fault

abbrev pub in_record : ℕ → RecordFault → FileFault
in_record number fault.BadMember = file.BadMember number
in_record number fault.BadCommand = file.BadCommand number
in_record number fault.BadCount = file.BadCount number
in_record number (fault.BadField field) = file.BadField number field

-- what is said of the record with this number
abbrev pub numbered_text : ℕ → List ℕ → List ℕ
numbered_text number words = codes "record " ++ (decimal number ++ (codes ": " ++ words))

-- the line that is printed of a fault
abbrev pub fault_text : FileFault → List ℕ
fault_text file.TooLong = codes "file too long"
fault_text file.ReadFailed = codes "read failed"
fault_text (file.BadMember number) = numbered_text number (codes "bad member")
fault_text (file.BadCommand number) = numbered_text number (codes "bad command")
fault_text (file.BadCount number) = numbered_text number (codes "wrong number of fields")
fault_text (file.BadField number field) = numbered_text number (codes "bad field " ++ decimal field)
fault_text (file.TooManyCommands number) = numbered_text number (codes "too many commands")
fault_text file.NotADay = codes "record 1: not a day record"
fault_text file.NoMemory = codes "out of memory"
