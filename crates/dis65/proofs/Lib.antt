pub mod LineLemmas
pub mod ReadLemmas
pub mod PlacedLemmas
pub mod LawLemmas
pub mod Examples
