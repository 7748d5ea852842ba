pub mod FreshBoard
pub mod PlaysScript
pub mod RecordedReceipts
