pub mod State
pub mod Pixels
pub mod Colours
