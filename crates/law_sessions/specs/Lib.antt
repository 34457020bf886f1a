pub mod OneRun
pub mod Words
pub mod Arguments
pub mod OutputOptions
pub mod Refusals
pub mod TraceOfRun
pub mod LongerRun
