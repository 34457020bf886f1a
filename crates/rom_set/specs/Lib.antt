pub mod Roms
pub mod Places
