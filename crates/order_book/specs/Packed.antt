-- An order with its stamp, as a slot holds it.
use Rattle.std.specs.Prelude.{◌≡◌, Bool, true, false, unwrap_or}
use Rattle.auction_terms.specs.declared.Limit.{Limit}
use Rattle.auction_terms.specs.declared.Limit.TheVariants.{Market, At}
use Rattle.auction_terms.specs.declared.Stamped.{Stamped}
use Rattle.order_book.specs.Packing.{unpacked_limit, unpacked_peak, tick_or_zero}
use Rattle.order_book.specs.declared.packed.PackedOrder.TheInside.{Inside}

-- the order with its stamp
abbrev pub stamped_order : Inside → Stamped
stamped_order packed = record {
  order = record {
    id = packed.id;
    member = packed.member;
    side = packed.side;
    restriction = packed.restriction;
    limit = unpacked_limit packed.has_limit packed.tick;
    quantity = packed.quantity;
    peak = unpacked_peak packed.peak;
  };
  stamp = packed.stamp;
}

-- a market order has tick 0
abbrev pub HasNoTickUnlessLimited : Inside → Type 0
HasNoTickUnlessLimited packed = packed.has_limit ≡ false → packed.tick ≡ 0

abbrev pub has_limit : Limit → Bool
has_limit Market = false
has_limit (At tick) = true

-- as it is held
abbrev pub packed_order : Stamped → Inside
packed_order s = record {
  id = s.order.id;
  stamp = s.stamp;
  quantity = s.order.quantity;
  tick = tick_or_zero s.order.limit;
  peak = unwrap_or s.order.peak 0;
  member = s.order.member;
  side = s.order.side;
  restriction = s.order.restriction;
  has_limit = has_limit s.order.limit;
}
