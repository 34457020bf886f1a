pub mod HexLemmas
pub mod HexLaws
pub mod DecimalLemmas
pub mod DecimalLaws
pub mod LineLemmas
