pub mod Fields
pub mod Saved
pub mod Parts
pub mod Entries
pub mod File
pub mod Laws
pub mod Resume
