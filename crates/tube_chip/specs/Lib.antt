pub mod Register
pub mod State
pub mod Act
pub mod Packing
pub mod Events
pub mod Laws
pub mod Code
