pub mod Cycles
pub mod Operands
pub mod Masks
pub mod AtOperand
pub mod Forms
pub mod KnownTables
pub mod RowBytes
