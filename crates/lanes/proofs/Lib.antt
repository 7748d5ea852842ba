pub mod Eight
pub mod RunningSumLaws
pub mod LaneLaws
pub mod ChunkLaws
pub mod GreatestLaws
pub mod FlaggedLaws
pub mod LeastLaws
