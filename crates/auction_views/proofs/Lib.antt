pub mod LadderRowLaws
pub mod TableLaws
