pub mod Views
pub mod Rules
pub mod Passes
pub mod Steps
