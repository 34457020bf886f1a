pub mod KeyLemmas
pub mod GivenLemmas
pub mod InputKindLemmas
pub mod OrderLemmas
pub mod PlaceLemmas
