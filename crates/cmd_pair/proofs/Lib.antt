pub mod GenLemmas
