pub mod ClampedPrice
pub mod Around
pub mod Candidates
pub mod Decision
pub mod PriceTerms
