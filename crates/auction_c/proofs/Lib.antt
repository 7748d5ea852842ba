mod Boxes
mod HeldBox
mod HeldLends
mod HeldMakes
mod HeldSends
mod BoardErrorLaws
mod CopyLaws
mod ClosingLaws
pub mod LadderTicksLaws
mod ManyLaws
mod OpenLaws
mod ManyCallLaws
mod OutcomeLaws
mod JournalLineLaws
mod JournalFoundLaws
pub mod TakenEntryLaws
