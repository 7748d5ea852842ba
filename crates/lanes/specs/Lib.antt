pub mod RunningSums
pub mod Meeting
pub mod Selection
pub mod Positive
