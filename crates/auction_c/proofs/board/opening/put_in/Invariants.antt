-- Invariants of the loops of `put_in` (src/board/opening.rt); rt looks here.
use Rattle.std.proofs.Common.{◌≡◌, ◌++◌, Some, length, map, take}
use Rattle.auction_c.proofs.board.opening.put_in.Given as goal

abbrev pub invariant-loop-member : goal.invariant-loop-member
invariant-loop-member l = record {
  at : l.i ≡ length l.yielded;
  wide : length l.handles ≡ length l.fn.members.items;
  split : l.yielded ++ l.member-iterator.rest.items ≡ l.fn.members.items;
  reserves : map (λ h. h.reserve) (take l.i l.handles) ≡ map (λ b. l.reserve) l.yielded;
  members : map (λ h. h.boxed.value) (take l.i l.handles) ≡ map (λ b. Some b.value) l.yielded;
}
