pub mod Names
pub mod Sound
pub mod Left
pub mod Files
pub mod Outputs
pub mod Verdicts
pub mod Trace
pub mod View
