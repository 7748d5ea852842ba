-- What a box that C holds owns: the same as a `Box`, or nothing.
use Rattle.std.specs.Prelude.{Option, Some, None}
use base.Fml.{Fml, ftrue}
use denote.RattleType.{RattleType}
use denote.RawPtr.{Ptr}
use Rattle.std.specs.Box.Ownership.{box_owns}
use Rattle.std.specs.Global.{Global}
use Rattle.std_heap.specs.contracts.GlobalAllocator.TheImpl.{ghosts}

abbrev pub optional_box_owns : (R : RattleType) → Global → Ptr → Option R.Denot → Fml
optional_box_owns R alloc at None = ftrue
optional_box_owns R alloc at (Some value) = box_owns (ghosts.dealloc_token alloc) R at value
