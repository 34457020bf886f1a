pub mod Runs
pub mod Conversions
