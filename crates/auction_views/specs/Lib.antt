pub mod LadderRows
pub mod TableLines
pub mod View
pub mod ViewText
