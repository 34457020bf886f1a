pub mod InputKindLemmas
pub mod StageLemmas
pub mod HeadlineLemmas
pub mod SoundFileLemmas
pub mod ResumeAndFollowLemmas
