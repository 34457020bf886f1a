pub mod Save
pub mod Kept
pub mod Code
