pub mod EntryTable
pub mod DotLemmas
pub mod Rows
