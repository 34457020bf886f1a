pub mod Line
pub mod Trace
pub mod Entries
pub mod FirstWrong
pub mod Text
pub mod Laws
pub mod Merge
