pub mod KeptLemmas
pub mod SaveLemmas
