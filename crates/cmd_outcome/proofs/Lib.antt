pub mod ProductLemmas
pub mod SoundLemmas
