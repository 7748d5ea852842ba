pub mod Heard
pub mod ReplyPairs
pub mod Inputs
