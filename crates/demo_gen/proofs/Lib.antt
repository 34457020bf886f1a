pub mod Assembling
pub mod Fitting
pub mod ImageLemmas
pub mod WordLemmas
