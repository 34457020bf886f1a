pub mod Beats
pub mod Played
pub mod Heard
pub mod Steady
pub mod Pressed
