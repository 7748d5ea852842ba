pub mod Audits
pub mod AuctionState
pub mod ConfigFault
pub mod Executions
pub mod LadderBook
pub mod KnownPrice
pub mod OpenOrders
pub mod Reserve
