pub mod PlacementLemmas
pub mod PassLemmas
pub mod EncodeLemmas
pub mod SourceLemmas
