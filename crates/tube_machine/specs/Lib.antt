pub mod BusModel
pub mod Step
pub mod Lawful
pub mod Exchange
pub mod NoBreak
pub mod Whole
pub mod SkipWhile
