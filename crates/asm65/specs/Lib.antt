pub mod Placement
pub mod Source
pub mod CodeLabels
pub mod Passes
