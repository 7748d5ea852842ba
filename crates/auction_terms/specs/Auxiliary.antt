-- Devices of the code and of the proofs: no rule is stated here.
pub mod Sort
pub mod BestTicks
pub mod RankedFills
pub mod OverlapStarts
pub mod OrderLists
pub mod StampedOrders
pub mod RunningAuction
