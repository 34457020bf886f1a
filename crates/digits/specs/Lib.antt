pub mod Hexadecimal
pub mod Decimal
pub mod Laws
pub mod Lines
