pub mod Talking
pub mod Hands
pub mod Steady
