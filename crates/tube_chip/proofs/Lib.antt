pub mod Merged
pub mod Rises
pub mod Packed
