pub mod Words
pub mod Events
pub mod Line
pub mod Text
pub mod Last
pub mod Keys
pub mod Levels
