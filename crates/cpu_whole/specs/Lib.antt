pub mod Whole
pub mod CodeWays
pub mod Outside
