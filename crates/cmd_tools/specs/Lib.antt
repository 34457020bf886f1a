pub mod Check
pub mod Asm
