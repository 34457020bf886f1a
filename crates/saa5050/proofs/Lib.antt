pub mod Words
pub mod Lines
pub mod Codes
pub mod Usual
pub mod LetterLines
