-- A box that C holds may go to another thread where its value may.
use mir.Raw.{raw}
use base.Shift.{Keyless}
use denote.Memory.{lone}
use denote.RawPtr.{Ptr}
use denote.Struct.Struct.{exits_of}
use denote.Struct.Owning.{shape, fields, to}
use denote.Param.Send.{IsSend, AllSend, owning_send, struct_send, sendable}
use Rattle.std.specs.Prelude.{Option, Some, None}
use Rattle.std.specs.Global.{Global}
use Rattle.std.proofs.Crossing as heap
use Rattle.std_alloc.proofs.SendSync.{quiet, lies}
use Rattle.std_heap.proofs.Global.TheSendSync as handle
use Rattle.auction_c.specs.HeapBox.{optional_box_owns}
use Rattle.auction_c.proofs.HeldBox.{Held, CR, HB, the_type, at, alloc, value}

module _ (H : Held) (member : IsSend (CR H)) where
  keyless : (alloc : Global) (at : Ptr) (o : Option (CR H).Denot) → Keyless (optional_box_owns (CR H) alloc at o)
  keyless alloc at None = tt
  keyless alloc at (Some v) = (lies (CR H) member at v, heap.frees.frees alloc (raw (lone (CR H).mir)) at)

  pub sends : IsSend (HB H)
  sends =
      let all : AllSend (fields (the_type H)) = (search sendable, (handle.the_field_send, tt)) in
      owning_send (the_type H) all (λ d. keyless (alloc H d) (at H d) (value H d))
      (λ k. quiet (to (the_type H)) (exits_of k (fields (the_type H)))
      ((struct_send (shape (the_type H)) all).leaving k))
