pub mod Bits
pub mod Order
pub mod Clock
pub mod Zeros
