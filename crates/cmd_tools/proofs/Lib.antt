pub mod AsmLemmas
