pub mod Loop
pub mod Standing
pub mod Reading
pub mod PartLaws
pub mod EntryLaws
pub mod FileLaws
pub mod GoesOn
pub mod Again
