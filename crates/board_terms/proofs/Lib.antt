pub mod PrefixLaws
pub mod StoryLaws
pub mod HistoryLaws
pub mod AccountLaws
pub mod FaultLaws
pub mod OpenedCoreLaws
