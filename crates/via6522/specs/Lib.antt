pub mod State
pub mod Timers
pub mod Lines
pub mod Registers
pub mod Step
pub mod Laws
pub mod CodeQuiet
pub mod Jumps
