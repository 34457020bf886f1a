pub mod Arithmetic
pub mod Flags
pub mod Addresses
pub mod Instructions
pub mod Decimal
