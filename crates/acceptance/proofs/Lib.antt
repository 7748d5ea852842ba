pub mod ScriptLaws
pub mod ShortLines
