pub mod Session
pub mod Back
pub mod Comes
