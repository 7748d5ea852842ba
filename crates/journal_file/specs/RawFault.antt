-- Why a call on a real file wasn't done.
use Rattle.std.specs.Prelude.{Result, Ok, Err}
use Rattle.journal_file.specs.declared.device.DeviceError.{DeviceError}
use Rattle.journal_file.specs.declared.device.DeviceError.TheVariants as device
use Rattle.journal_file.specs.declared.raw_file.RawFault.{RawFault}
use Rattle.journal_file.specs.declared.raw_file.RawFault.TheVariants as raw

-- the fault of a call, as a device reports it
abbrev pub as_fault : {T : Type 0} → Result T RawFault → Result T DeviceError
as_fault (Ok value) = Ok value
as_fault (Err raw.Failed) = Err device.Failed
as_fault (Err raw.Changed) = Err device.Changed
