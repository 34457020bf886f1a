pub mod PlugLemmas
pub mod LengthLemmas
pub mod SessionLemmas
pub mod BegunLemmas
pub mod PartLemmas
pub mod ReadLemmas
