pub mod BoundsHints
pub mod FieldLooks
pub mod Hints
pub mod InputHints
pub mod RecordHints
