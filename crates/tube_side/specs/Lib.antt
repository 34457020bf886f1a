pub mod CodeSteps
pub mod CodeSpeculation
pub mod CodeSpecHorizon
