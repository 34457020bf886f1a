pub mod Runs
pub mod Turning
pub mod Histories
pub mod Passing
