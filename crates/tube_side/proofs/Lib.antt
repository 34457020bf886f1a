pub mod Waits
pub mod SpecHorizons
