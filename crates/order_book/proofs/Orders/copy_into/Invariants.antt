-- Invariants of the loops of `Orders::copy_into` (src/refilling.rt); rt looks here.
use Rattle.std.proofs.Common.{◌≡◌, length, take, vec_capacity}
use Rattle.slab.specs.Slab.{slab_len}
use Rattle.order_book.specs.Orders.{present}
use Rattle.order_book.specs.Restoring.{AreRestored}
use Rattle.order_book.proofs.Orders.copy_into.Given as goal

abbrev pub invariant-loop-place : goal.invariant-loop-place
invariant-loop-place l = record {
  restored : AreRestored l.self.slots l.place l.self.stamps l.orders.slots l.keys.items;
  len : slab_len l.orders ≡ length (present (take l.place l.self.slots));
  ids : length l.keys.items ≡ l.self.entered;
  capacity : l.orders.capacity ≡ l.initial.orders.capacity;
  room : vec_capacity l.keys ≡ vec_capacity l.initial.keys;
}
