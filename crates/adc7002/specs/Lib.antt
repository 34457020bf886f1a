pub mod State
pub mod Registers
pub mod Step
pub mod Calm
pub mod Laws
