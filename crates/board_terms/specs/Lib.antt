pub mod Stories
pub mod MemberView
pub mod MemberInvariant
pub mod CallsAndLooks
pub mod CoreInvariant
pub mod Closings
pub mod BoardOpening
pub mod BoardViews
