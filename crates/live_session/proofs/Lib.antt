pub mod RecordTextLaws
pub mod InputLineLaws
pub mod ResponderLaws
pub mod SessionLaws
pub mod TurnLaws
pub mod CommitLaws
pub mod JournaledRunLaws
mod LookLaws
mod ResumeLaws
mod LineLengthLaws
mod PrintableLineLaws
pub mod JournaledPromiseLaws
mod BegunSessionLaws
mod FromOpeningLaws
pub mod UnquotedLineLaws
